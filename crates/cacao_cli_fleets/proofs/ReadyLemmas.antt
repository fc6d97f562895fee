-- One run more of a fleet, behind those of the places before it.
use Rattle.std.proofs.Common.{◌≡◌, inl, inr, ◌∙◌, refl, sym, ap, subst, arith, append_assoc, ℕ, ◌+◌, ◌-◌, ◌<◌, ◌≤◌, true, List, [], ◌∷◌, ◌++◌, length, length-take-le, map, take, get_or, Some}
use Rattle.std.specs.Prelude.{All, Contains, IsSome, option_map, slice_get}
use Rattle.std.proofs.lemmas.List.{append-nil, get_or-map, get_or-take, length-append, length-map, map-append}
use Rattle.std.proofs.lemmas.Option.{get_or_from_slice_get, slice_get-get_or, slice_get-map, slice_get_within}
use Rattle.cacao_json.specs.Reading.{tree}
use Rattle.flow_core_rules.specs.Givens.{Given}
use Rattle.flow_fleet_steps.specs.Openings.{Runs, numbers}
use Rattle.cacao_cli_words.specs.Requests.{are_apart}
use Rattle.cacao_cli_words.specs.RunBooks.{run_of}
use Rattle.cacao_cli_words.specs.Words.{Text}
use Rattle.cacao_cli_words.specs.declared.run_book.RunBook.{RunBook}
use Rattle.cacao_cli_ends.specs.Ends.{End}
use Rattle.cacao_cli_ends.specs.Files.{NamedText}
use Rattle.cacao_cli_looks.specs.Command.{text_of}
use Rattle.cacao_cli_looks.specs.declared.file_text.FileText.{FileText}
use Rattle.cacao_cli_ends.proofs.ReadLemmas.{map-more}
use Rattle.cacao_cli_fleets.specs.FleetTexts.{GiveAll}
use Rattle.cacao_cli_fleets.specs.FleetTexts.GiveAll.{nothing, one_more}
use Rattle.cacao_cli_fleets.specs.Judging.{AreFirst, IsRefusal, JoinsRun, RefusesSome}
use Rattle.cacao_cli_fleets.proofs.RunLemmas.{first_of, numbers_of, once}

abbrev pub number_of : RunBook → ℕ
number_of one = one.run

abbrev run_number : ℕ × Given → ℕ
run_number run = run.0

-- the number at a place
number-at : (pairs : List RunBook) (k : ℕ) (one : RunBook) → slice_get pairs k ≡ Some one → slice_get (numbers_of (map run_of pairs)) k ≡ Some one.run
number-at pairs k one e =
    slice_get-map first_of (map run_of pairs) k ∙ ap (option_map first_of) (slice_get-map run_of pairs k ∙ ap (option_map run_of) e)

module _ (pairs : List RunBook) (place : ℕ) (one : RunBook) (before : Runs) (there : slice_get pairs place ≡ Some one) (numbered : numbers before ≡ map number_of (take place pairs)) where
  here : place < length pairs
  here = slice_get_within pairs place one there

  pub long : length before ≡ place
  long = sym (length-map before run_number) ∙ ap (λ (l : List ℕ). length l) numbered ∙ length-map (take place pairs) number_of ∙ length-take-le place pairs (omega (arith, here))

  -- the one at a lower place, among the first
  lower : (k : ℕ) → k < place → get_or (take place pairs) k one ≡ get_or pairs k one
  lower k lt = get_or-take place pairs k one lt

  pub join-other : are_apart (map run_of pairs) ≡ true → Contains (numbers before) one.run → ⊥
  join-other apart (k, lt, is) = omega (arith, below, at)
    where
      many : length (numbers before) ≡ place
      many = length-map before run_number ∙ long

      below : k < place
      below = omega (arith, lt, many)

      low : RunBook
      low = get_or pairs k one

      same : low.run ≡ one.run
      same = ap number_of (sym (lower k below)) ∙ sym (get_or-map number_of (take place pairs) k one one.run (omega (arith, below, length-take-le place pairs (omega (arith, here)))))
          ∙ ap (λ (l : List ℕ). get_or l k one.run) (sym numbered) ∙ is

      at : place ≡ k
      at = once (map run_of pairs) apart k place one.run
          (number-at pairs k low (slice_get-get_or pairs k one (omega (arith, below, here))) ∙ ap (λ (n : ℕ). Some n) same) (number-at pairs place one there)

  pub grows : (given : Given) → numbers (before ++ (one.run, given) ∷ []) ≡ map number_of (take (place + 1) pairs)
  grows given = map-append run_number before ((one.run, given) ∷ []) ∙ ap (λ (l : List ℕ). l ++ one.run ∷ []) numbered
      ∙ ap (λ (x : RunBook). map number_of (take place pairs) ++ number_of x ∷ []) (sym (get_or_from_slice_get pairs place one one there)) ∙ sym (map-more number_of pairs place one here)

-- one text more
pub first-more : (pairs : List RunBook) (texts : List NamedText) (place : ℕ) (text : NamedText) (before after : Runs) → AreFirst pairs texts place before → JoinsRun pairs place text before after → AreFirst pairs (texts ++ text ∷ []) (place + 1) after
first-more pairs texts place text before after first joins = record {
  numbered = subst (λ (r : Runs). numbers r ≡ map number_of (take (place + 1) pairs)) (sym joins.more) (grows pairs place joins.one before joins.there first.numbered joins.given);
  gives = subst (λ (r : Runs). GiveAll (texts ++ text ∷ []) r) (sym joins.more) (one_more text joins.one.run joins.given first.gives joins.gives);
}

-- the playbook of this place is refused, and none before it was
pub refuses-here : (pairs : List RunBook) (done : List NamedText) (text : NamedText) (behind texts : List NamedText) (place : ℕ) (before : Runs) (end : End) → texts ≡ done ++ text ∷ behind → place ≡ length done → AreFirst pairs done place before
    → IsRefusal text place end → RefusesSome texts end
refuses-here pairs done text behind texts place before end is at first (inr memory) = inr memory
refuses-here pairs done text behind texts place before end is at first (inl (broken, breaks, ends)) =
    inl (place, broken, record { before = done; text = text; behind = behind; is = is; place_is = at; runs = before; earlier = first.gives; breaks = breaks }, ends)

middle : (front : List FileText) (text : FileText) (behind : List FileText) → get_or (front ++ text ∷ behind) (length front) text ≡ text
middle [] text behind = refl
middle (one ∷ front) text behind = middle front text behind

-- each of them has a tree
each-at : (texts front : List FileText) (text : FileText) (behind : List FileText) → texts ≡ front ++ text ∷ behind → All (λ (t : FileText). IsSome (tree t.bytes)) texts → IsSome (tree text.bytes)
each-at texts front text behind is each =
    let sum = length-append front (text ∷ behind) in
    subst (λ (t : FileText). IsSome (tree t.bytes)) (middle front text behind)
    (subst (λ (l : List FileText). All (λ (t : FileText). IsSome (tree t.bytes)) l) is each (length front) text (omega (arith, sum)))

-- the runs of the playbooks that were judged, and those that are left
pub record SoFar (pairs : List RunBook) (texts rest : List FileText) (left place : ℕ) (runs : Runs) : Type 0 where
  pub done : List FileText
  pub all : texts ≡ done ++ rest
  pub many : left ≡ length rest
  pub at : place ≡ length done
  pub first : AreFirst pairs (map text_of done) place runs

pub far-none : (pairs : List RunBook) (texts rest : List FileText) (left : ℕ) → texts ≡ rest → left ≡ length rest → SoFar pairs texts rest left 0 []
far-none pairs texts rest left is many = record { done = []; all = is; many = many; at = refl; first = record { numbered = refl; gives = nothing } }

module _ (pairs : List RunBook) (texts rest behind : List FileText) (left place : ℕ) (text : FileText) (before : Runs) (far : SoFar pairs texts rest left place before) (is : rest ≡ text ∷ behind) where
  all-now : texts ≡ far.done ++ text ∷ behind
  all-now = far.all ∙ ap (λ (l : List FileText). far.done ++ l) is

  pub far-here : length texts ≡ length pairs → place < length pairs
  far-here many = let sum = length-append far.done (text ∷ behind) in let long = ap (λ (l : List FileText). length l) all-now in omega (arith, many, sum, long, far.at)

  pub far-readable : All (λ (t : FileText). IsSome (tree t.bytes)) texts → IsSome (tree text.bytes)
  far-readable each = each-at texts far.done text behind all-now each

  pub far-more : (more : ℕ) (after : Runs) → more ≡ length behind → JoinsRun pairs place (text_of text) before after → SoFar pairs texts behind more (place + 1) after
  far-more more after many joins = record {
    done = far.done ++ text ∷ [];
    all = all-now ∙ sym (append_assoc far.done (text ∷ []) behind);
    many = many;
    at = let sum = length-append far.done (text ∷ []) in omega (arith, sum, far.at);
    first = subst (λ (l : List NamedText). AreFirst pairs l (place + 1) after) (sym (map-append text_of far.done (text ∷ []))) (first-more pairs (map text_of far.done) place (text_of text) before after far.first joins);
  }

  pub far-refused : (end : End) → IsRefusal (text_of text) place end → RefusesSome (map text_of texts) end
  far-refused end refusal = refuses-here pairs (map text_of far.done) (text_of text) (map text_of behind) (map text_of texts) place before end
      (ap (map text_of) all-now ∙ map-append text_of far.done (text ∷ behind)) (far.at ∙ sym (length-map far.done text_of)) far.first refusal

-- all texts were judged
pub far-all : (pairs : List RunBook) (texts rest : List FileText) (left place : ℕ) (runs : Runs) → SoFar pairs texts rest left place runs → left ≡ 0 → length texts ≡ length pairs → AreFirst pairs (map text_of texts) (length pairs) runs
far-all pairs texts [] left place runs far none many =
    let whole : texts ≡ far.done = far.all ∙ append-nil far.done in
    let long : place ≡ length pairs = far.at ∙ ap (λ (l : List FileText). length l) (sym whole) ∙ many in
    subst (λ (n : ℕ). AreFirst pairs (map text_of texts) n runs) long (subst (λ (l : List FileText). AreFirst pairs (map text_of l) place runs) (sym whole) far.first)
far-all pairs texts (text ∷ rest) left place runs far none many = absurd (omega (arith, far.many, none))

-- there is one at least
pub far-some : (pairs : List RunBook) (texts : List NamedText) → AreFirst pairs texts (length pairs) [] → 1 ≤ length pairs → ⊥
far-some [] texts first some = omega (arith, some)
far-some (one ∷ pairs) texts first some = let none : [] ≡ map number_of (take (length (one ∷ pairs)) (one ∷ pairs)) = first.numbered in cc

-- ---- names

abbrev pub name_of : RunBook → Text
name_of one = one.book.now
