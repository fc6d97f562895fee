-- Records of a run tell what it was given: its texts stand in its Begin, and each has one tree.
use Rattle.std.proofs.Common.{◌≡◌, ℕ, suc, ◌≤◌, List, [], ◌∷◌, ◌++◌, length, Option, Some, None, arith, refl, ap, sym, subst, ◌∙◌}
use Rattle.std.specs.Prelude.{map, option_map, slice_get}
use Rattle.serde_json.specs.Data.{Data}
use Rattle.cacao_json.specs.Reading.{tree}
use Rattle.run_records.specs.declared.record.Record.{Record}
use Rattle.run_records.specs.declared.record.Record.TheVariants as entry
use Rattle.run_records.specs.Ranges.{InRange}
use Rattle.cacao_book.specs.declared.books.Book.{Book}
use Rattle.cacao_book.specs.Books.{book}
use Rattle.cacao_vars.specs.declared.kinds.Kind.{Kind}
use Rattle.flow_core_rules.specs.Givens.{Given}
use Rattle.flow_core_rules.specs.Edits.{Edit}
use Rattle.flow_core_rules.specs.Edits.Edit.{opens, writes, makes}
use Rattle.flow_core_rules.specs.Bindings.{bindings_of}
use Rattle.flow_core_rules.specs.Accepted.{Accepted, IsRunOf, given_of}
use Rattle.flow_core_rules.specs.Runs.{Leads, begin_of, after, blank, first_task}
use Rattle.flow_core_rules.specs.Laws.{AnyTrees, AnyText, IsSameRun, RunsAreOne, BeginsAreInRange}
use Rattle.flow_core_rules.proofs.RunLemmas.{some_inner, list_heads, run_one}

texts_in : Record → List (List ℕ)
texts_in (entry.Begin run moment books bind) = books
texts_in other = []

bind_in : Record → List ℕ
bind_in (entry.Begin run moment books bind) = bind
bind_in other = []

run_in : Record → ℕ
run_in (entry.Begin run moment books bind) = run
run_in other = 0

each_same : (xs ys : List Data) → map (λ (t : Data). Some t) xs ≡ map (λ (t : Data). Some t) ys → xs ≡ ys
each_same [] [] e = refl
each_same [] (y ∷ ys) e = absurd (none e)
  where
    none : [] ≡ Some y ∷ map (λ (t : Data). Some t) ys → ⊥
    none h = cc
each_same (x ∷ xs) [] e = absurd (none e)
  where
    none : Some x ∷ map (λ (t : Data). Some t) xs ≡ [] → ⊥
    none h = cc
each_same (x ∷ xs) (y ∷ ys) e =
    let both = list_heads (Some x) (Some y) (map (λ (t : Data). Some t) xs) (map (λ (t : Data). Some t) ys) e in
    ap (λ (t : Data). t ∷ xs) (some_inner x y both.0) ∙ ap (λ (ts : List Data). y ∷ ts) (each_same xs ys both.1)

-- whatever the rules of playbooks and of kinds are
pub one_run : (AreAccepted : List Data → Type 0) (Fits : Kind → List ℕ → Type 0) (records : List Record) (x y : IsRunOf AreAccepted Fits records) → IsSameRun AreAccepted Fits records x y
unfolding texts_in bind_in run_in
one_run AreAccepted Fits records x y =
    let l : Leads x.given x.run records x.state = x.leads in
    let m : Leads y.given y.run records y.state = y.leads in
    let p : Accepted AreAccepted Fits (x.given).texts (x.given).bind x.given = x.accepted in
    let q : Accepted AreAccepted Fits (y.given).texts (y.given).bind y.given = y.accepted in
    let both = list_heads (begin_of x.given x.run l.now) (begin_of y.given y.run m.now) l.others m.others (sym l.records_are ∙ m.records_are) in
    let texts : (x.given).texts ≡ (y.given).texts = ap texts_in both.0 in
    let bind : (x.given).bind ≡ (y.given).bind = ap bind_in both.0 in
    let run : x.run ≡ y.run = ap run_in both.0 in
    let trees : p.trees ≡ q.trees = each_same p.trees q.trees (sym p.trees_are ∙ ap (map tree) texts ∙ q.trees_are) in
    let bindings : p.bindings ≡ q.bindings = some_inner p.bindings q.bindings (sym p.bindings_are ∙ ap bindings_of bind ∙ q.bindings_are) in
    let given : x.given ≡ y.given =
    p.given_is ∙ ap (λ (ts : List Data). given_of ts (x.given).bind p.bindings) trees ∙ ap (λ (b : List ℕ). given_of q.trees b p.bindings) bind
    ∙ ap (given_of q.trees (y.given).bind) bindings ∙ sym q.given_is in
    record {
      given_is = given;
      run_is = run;
      state_is = run_one x.given x.run records x.state y.state l (subst (λ (g : Given). Leads g x.run records y.state) (sym given) (subst (λ (n : ℕ). Leads y.given n records y.state) (sym run) m));
    }

pub runs_are_one : RunsAreOne
runs_are_one records x y = one_run AnyTrees AnyText records x y

-- ---- the Begin of what is accepted

same_length : (texts : List (List ℕ)) (trees : List Data) → map tree texts ≡ map (λ (t : Data). Some t) trees → length texts ≡ length trees
same_length [] [] e = refl
same_length [] (t ∷ trees) e = absurd (none e)
  where
    none : [] ≡ Some t ∷ map (λ (x : Data). Some x) trees → ⊥
    none h = cc
same_length (x ∷ texts) [] e = absurd (none e)
  where
    none : tree x ∷ map tree texts ≡ [] → ⊥
    none h = cc
same_length (x ∷ texts) (t ∷ trees) e =
    let both = list_heads (tree x) (Some t) (map tree texts) (map (λ (y : Data). Some y) trees) e in
    ap suc (same_length texts trees both.1)

none_some : {A : Type 0} (x : A) → None ≡ Some x → ⊥
none_some x h = cc

first_there : (trees : List Data) (b : Book) → slice_get (map book trees) 0 ≡ Some b → 1 ≤ length trees
first_there [] b e = absurd (none_some b e)
first_there (t ∷ trees) b e = omega arith

pub begins_are_in_range : BeginsAreInRange
begins_are_in_range given run now first p begins soon fits short short_bind = by (slice_get given.books 0) refl begins
  where
    count : length given.texts ≡ length p.trees
    count = same_length given.texts p.trees p.trees_are

    by : (o : Option Book) → slice_get given.books 0 ≡ o
        → option_map (λ (es : List Edit). after now es (blank given run)) (option_map (λ (book : Book). opens None book.variables ∷ (map (λ b. writes 0 b.0 b.1) given.variables ++ makes (first_task given now book) ∷ [])) o) ≡ Some first
        → InRange (begin_of given run now)
    by None there h = absurd (none_some first h)
    by (Some b) there h =
        let some : 1 ≤ length p.trees = first_there p.trees b (ap (λ (g : Given). slice_get g.books 0) (sym p.given_is) ∙ there) in
        let few = p.few in
        record {
          run_fits = fits;
          moment_fits = omega arith;
          some_book = subst (λ n. 1 ≤ n) (sym count) some;
          few_books = subst (λ n. n ≤ 16) (sym count) few;
          short_books = short;
          short_bind = short_bind;
        }
