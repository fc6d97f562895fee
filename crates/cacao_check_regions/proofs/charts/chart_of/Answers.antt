use Rattle.std.proofs.Common.{◌≡◌, ◌∙◌, ◌^◌, ap, sym, length, map, filter_map, List, [], refl, ℕ, ◌<◌, ◌≤◌, All, subst, arith}
use Rattle.std.proofs.lemmas.List.{length-map}
use Rattle.cacao_book.specs.declared.steps.Step.{Step}
use Rattle.cacao_book.specs.Steps.{place_of}
use Rattle.cacao_check_steps.specs.Links.{next_keys, head_keys, start_keys, start_places}
use Rattle.base_graphs.specs.Tables.{IsWithin, IsReverse}
use Rattle.cacao_check_steps.proofs.LinkLemmas.{rows_within, places_within}
use Rattle.cacao_check_regions.proofs.TableLemmas.{reach_marks, same_search, through_guards}
use Rattle.cacao_check_regions.proofs.charts.chart_of.Goals as goal

-- a table of the links of the steps, and its width
table_within : (steps : List Step) (f : Step → List (List ℕ)) (rows : List (List ℕ)) → rows ≡ map (λ step. filter_map (place_of steps) (f step)) steps → IsWithin (length rows) rows
table_within steps f rows e =
    let n : length rows ≡ length steps = ap length e ∙ length-map steps (λ step. filter_map (place_of steps) (f step)) in
    let all : IsWithin (length steps) rows = subst (IsWithin (length steps)) (sym e) (rows_within steps f steps) in
    subst (λ k. IsWithin k rows) (sym n) all

-- at most as many rows as a book may have steps
few_links : (steps : List Step) (f : Step → List (List ℕ)) (rows : List (List ℕ)) → rows ≡ map (λ step. filter_map (place_of steps) (f step)) steps → length steps ≤ 4096 → length rows < 2 ^ 32
few_links steps f rows e few = let n : length rows ≡ length steps = ap length e ∙ length-map steps (λ step. filter_map (place_of steps) (f step)) in omega (arith, n, few)

pub reversed-requires-clause-few : goal.reversed-requires-clause-few
reversed-requires-clause-few c = few_links c.args.book.now.steps next_keys c.deref.result.now (c.deref.ensures.value ∙ c.in_ok-next.ensures ∙ c.requires.next) c.as_slice-steps.ensures.few

pub reversed-requires-2-clause-few : goal.reversed-requires-2-clause-few
reversed-requires-2-clause-few c =
    few_links c.args.book.now.steps (λ (step : Step). head_keys step.kind) c.deref-2.result.now (c.deref-2.ensures.value ∙ c.in_ok-heads.ensures ∙ c.requires.heads) c.as_slice-steps.ensures.few

pub nests_of-requires-clause-few_free : goal.nests_of-requires-clause-few_free
nests_of-requires-clause-few_free c = few_links c.args.book.now.steps next_keys c.deref-5.result.now (c.deref-5.ensures.value ∙ c.in_ok-next.ensures ∙ c.requires.next) c.as_slice-steps.ensures.few

pub nests_of-requires-clause-few_guarded : goal.nests_of-requires-clause-few_guarded
nests_of-requires-clause-few_guarded c =
    few_links c.args.book.now.steps (λ (step : Step). head_keys step.kind) c.deref-6.result.now (c.deref-6.ensures.value ∙ c.in_ok-heads.ensures ∙ c.requires.heads) c.as_slice-steps.ensures.few

pub reversed-requires-clause-within : goal.reversed-requires-clause-within
reversed-requires-clause-within c = table_within c.args.book.now.steps next_keys c.deref.result.now (c.deref.ensures.value ∙ c.in_ok-next.ensures ∙ c.requires.next)

pub reversed-requires-2-clause-within : goal.reversed-requires-2-clause-within
reversed-requires-2-clause-within c =
    table_within c.args.book.now.steps (λ (step : Step). head_keys step.kind) c.deref-2.result.now (c.deref-2.ensures.value ∙ c.in_ok-heads.ensures ∙ c.requires.heads)

-- the rows of a table of links stand within the steps, which stand in the book
links_within : (steps all : List Step) (f : Step → List (List ℕ)) (rows : List (List ℕ)) → steps ≡ all → rows ≡ map (λ step. filter_map (place_of all) (f step)) all → IsWithin (length steps) rows
links_within steps all f rows s e = subst (λ (v : List Step). IsWithin (length v) rows) (sym s) (subst (IsWithin (length all)) (sym e) (rows_within all f all))

pub reached_past_guards-requires-clause-free_within : goal.reached_past_guards-requires-clause-free_within
reached_past_guards-requires-clause-free_within c =
    links_within c.as_slice-steps.result.now c.args.book.now.steps next_keys c.deref-3.result.now c.as_slice-steps.ensures.steps (c.deref-3.ensures.value ∙ c.in_ok-next.ensures ∙ c.requires.next)

pub reached_past_guards-requires-clause-guarded_within : goal.reached_past_guards-requires-clause-guarded_within
reached_past_guards-requires-clause-guarded_within c =
    links_within c.as_slice-steps.result.now c.args.book.now.steps (λ (step : Step). head_keys step.kind) c.deref-4.result.now c.as_slice-steps.ensures.steps (c.deref-4.ensures.value ∙ c.in_ok-heads.ensures ∙ c.requires.heads)

pub reached_past_guards-requires-clause-first_within : goal.reached_past_guards-requires-clause-first_within
reached_past_guards-requires-clause-first_within c =
    let book = c.args.book.now in
    let first : c.as_slice.result.now ≡ start_places book = c.as_slice.ensures ∙ c.in_ok-starts.ensures in
    subst (λ (v : List Step). All (λ place. place < length v) c.as_slice.result.now) (sym c.as_slice-steps.ensures.steps)
    (subst (All (λ place. place < length book.steps)) (sym first) (places_within book.steps (start_keys book)))

-- the same of a table turned round
width : (steps : List Step) (f : Step → List ℕ) (rows : List (List ℕ)) → rows ≡ map f steps → length rows ≡ length steps
width steps f rows e = ap length e ∙ length-map steps f

pub returns : goal.returns
returns c =
    let steps = c.args.book.now.steps in
    let next : c.in_ok-next.next.items ≡ map (λ step. filter_map (place_of steps) (next_keys step)) steps = c.in_ok-next.ensures ∙ c.requires.next in
    let heads : c.in_ok-heads.heads.items ≡ map (λ step. filter_map (place_of steps) (head_keys step.kind)) steps = c.in_ok-heads.ensures ∙ c.requires.heads in
    let next_width : length c.deref.result.now ≡ length steps = width steps (λ step. filter_map (place_of steps) (next_keys step)) c.deref.result.now (c.deref.ensures.value ∙ next) in
    let heads_width : length c.deref-2.result.now ≡ length steps = width steps (λ step. filter_map (place_of steps) (head_keys step.kind)) c.deref-2.result.now (c.deref-2.ensures.value ∙ heads) in
    record {
      next_are = next;
      heads_are = heads;
      starts_are = c.in_ok-starts.ensures;
      next_within = subst (IsWithin (length steps)) (sym next) (rows_within steps next_keys steps);
      heads_within = subst (IsWithin (length steps)) (sym heads) (rows_within steps (λ (step : Step). head_keys step.kind) steps);
      starts_within = subst (All (λ place. place < length steps)) (sym c.in_ok-starts.ensures) (places_within steps (start_keys c.args.book.now));
      back_next_within = subst (λ k. IsWithin k c.in_ok-back_next.back_next.items) next_width c.in_ok-back_next.ensures.within;
      back_next_are = subst (λ v. IsReverse v c.in_ok-back_next.back_next.items) c.deref.ensures.value c.in_ok-back_next.ensures.edges;
      back_heads_within = subst (λ k. IsWithin k c.in_ok-back_heads.back_heads.items) heads_width c.in_ok-back_heads.ensures.within;
      reach_are = reach_marks c.args.book.now c.deref-3.result.now c.deref-4.result.now c.in_ok-reach.reach (c.deref-3.ensures.value ∙ next) (c.deref-4.ensures.value ∙ heads)
          (same_search c.as_slice.result.now (start_places c.args.book.now) c.deref-3.result.now c.deref-3.result.now c.deref-4.result.now c.deref-4.result.now c.new-none.result [] c.new-none.result [] c.in_ok-reach.reach (c.as_slice.ensures ∙ c.in_ok-starts.ensures) refl refl c.new-none.ensures c.new-none.ensures c.in_ok-reach.ensures.exact);
      declarers_are = c.in_ok-declarers.ensures;
      nests_tell = through_guards c.args.book.now c.deref-5.result.now c.deref-6.result.now c.as_slice-2.result.now c.in_ok-nests.nests (c.deref-5.ensures.value ∙ next) (c.deref-6.ensures.value ∙ heads) (c.as_slice-2.ensures ∙ c.in_ok-starts.ensures) c.in_ok-nests.ensures;
      back_heads_are = subst (λ v. IsReverse v c.in_ok-back_heads.back_heads.items) c.deref-2.ensures.value c.in_ok-back_heads.ensures.edges;
    }
