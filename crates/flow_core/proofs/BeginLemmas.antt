-- The Begin of a run: it is taken exactly where its texts are accepted and canonical and it is in time.
use Rattle.std.proofs.Common.{◌≡◌, ◌≢◌, ℕ, zero, suc, ◌<◌, ◌≤◌, cond, List, [], ◌∷◌, ◌++◌, map, length, Option, Some, None, Ok, Err, refl, sym, ap, ap₂, subst, ◌∙◌, arith, inl, inr}
use Rattle.std.specs.Prelude.{MatchOption, option_map, slice_get}
use Rattle.std.proofs.lemmas.Bool.{cases_lt, le-ltb}
use Rattle.std.proofs.lemmas.List.{length-map}
use Rattle.std.proofs.lemmas.Option.{none-some, same_Some}
use Rattle.serde_json.specs.Data.{Data}
use Rattle.cacao_json.specs.Counts.{colons, first_broken, members, numbers}
use Rattle.cacao_json.specs.Reading.{tree}
use Rattle.cacao_json.specs.Refusals.{answer, if_read, if_whole}
use Rattle.cacao_json.specs.declared.error.JsonError.{JsonError}
use Rattle.cacao_json.specs.declared.error.JsonError.TheVariants.{RepeatedName}
use Rattle.cacao_json.proofs.Readings.{HasTree-from_tree}
use Rattle.cacao_check.specs.Fits.{FitsKind}
use Rattle.cacao_check.specs.FirstBreak.{Keeps}
use Rattle.cacao_check.specs.declared.breaks.Mode.TheVariants.{Run}
use Rattle.run_records.specs.Ranges.{last_moment}
use Rattle.run_records.specs.declared.record.Record.{Record}
use Rattle.run_records.specs.declared.record.Record.TheVariants as entry
use Rattle.cacao_book.specs.Books.{book as book_of}
use Rattle.flow_core_rules.specs.Accepted.{Accepted, first_variables, given_of}
use Rattle.flow_core_rules.specs.Bindings.{BindRule, KeepsBind, bindings_of}
use Rattle.flow_core_rules.specs.Edits.{Edit}
use Rattle.flow_core_rules.specs.Edits.Edit.{makes, opens, writes}
use Rattle.flow_core_rules.specs.Givens.{Given}
use Rattle.flow_core_rules.specs.Runs.{begin_of, first_edits, first_task}
use Rattle.flow_core_rules.specs.State.{Shown}
use Rattle.flow_core_rules.proofs.RunLemmas.{list_heads}
use Rattle.flow_core_plans.specs.SetupReading.{AreTreesOf, RefusesTexts, texts_read}
use Rattle.flow_core_plans.specs.Setups.{AreAccepted}
use Rattle.flow_core_setup.specs.declared.setup_errors.SetupError.{SetupError}
use Rattle.flow_core_setup.specs.declared.setup_errors.SetupError.TheVariants.{Unreadable, Broken, Bind, Memory}
use Rattle.flow_core.specs.TakenRecords.{BeginsNone, BeginsRun, HasBegun, HasTaken, NoneAccepted, Took, idle}
use Rattle.flow_core.specs.Views.{View, begins, blank_shown, taken}
use Rattle.flow_core.proofs.FlowLemmas.{begins_own, is_first, taken_first}
use Rattle.flow_core.proofs.TakenLemmas.{took_as, took_more, took_none}

-- ---- texts give one thing

each_same : (xs ys : List Data) → map (λ (t : Data). Some t) xs ≡ map (λ (t : Data). Some t) ys → xs ≡ ys
each_same [] [] e = refl
each_same [] (y ∷ ys) e = absurd (cc)
each_same (x ∷ xs) [] e = absurd (cc)
each_same (x ∷ xs) (y ∷ ys) e =
    let parts = list_heads (Some x) (Some y) (map (λ (t : Data). Some t) xs) (map (λ (t : Data). Some t) ys) e in
    ap (λ (t : Data). t ∷ xs) (same_Some x y parts.0) ∙ ap (λ (ts : List Data). y ∷ ts) (each_same xs ys parts.1)

one_trees : (texts : List (List ℕ)) (xs ys : List Data) → AreTreesOf texts xs → AreTreesOf texts ys → xs ≡ ys
one_trees texts xs ys p q = each_same xs ys (sym p ∙ q)

pub accepted_one : (texts : List (List ℕ)) (bind : List ℕ) (a b : Given) → Accepted AreAccepted FitsKind texts bind a → Accepted AreAccepted FitsKind texts bind b → a ≡ b
accepted_one texts bind a b p q =
    let trees : p.trees ≡ q.trees = one_trees texts p.trees q.trees p.trees_are q.trees_are in
    let bindings : p.bindings ≡ q.bindings = same_Some p.bindings q.bindings (sym p.bindings_are ∙ q.bindings_are) in
    p.given_is ∙ ap₂ (λ (ts : List Data) (d : Data). given_of ts bind d) trees bindings ∙ sym q.given_is

-- ---- texts that are refused are not accepted

no_tree : (text : List ℕ) (error : JsonError) (d : Data) → answer text ≡ Err error → tree text ≡ Some d → ⊥
no_tree text error d refused has =
    let k = HasTree-from_tree text d has in
    let same : colons text ≡ members d = k.same in
    let read : answer text ≡ if_read (colons text) (Some d) = ap (if_read (colons text)) k.reads in
    let not_repeated : if_read (colons text) (Some d) ≡ if_whole d (first_broken (numbers d)) =
    ap (λ b. cond b (Err (RepeatedName (colons text) (members d))) (if_whole d (first_broken (numbers d)))) (le-ltb (members d) (colons text) (omega (arith, same))) in
    let is : Err error ≡ Ok d = sym refused ∙ read ∙ not_repeated ∙ ap (if_whole d) k.whole in
    cc

abbrev HasData : List ℕ → Type 0
HasData text = (d : Data) × (tree text ≡ Some d)

tree_at : (texts : List (List ℕ)) (trees : List Data) (n : ℕ) (text : List ℕ) → AreTreesOf texts trees → slice_get texts n ≡ Some text → HasData text
tree_at [] trees n text are there = absurd (none-some text there)
tree_at (x ∷ texts) [] n text are there = absurd (cc)
tree_at (x ∷ texts) (t ∷ trees) zero text are there =
    (t, ap tree (sym (same_Some x text there)) ∙ (list_heads (tree x) (Some t) (map tree texts) (map (λ (y : Data). Some y) trees) are).0)
tree_at (x ∷ texts) (t ∷ trees) (suc n) text are there =
    tree_at texts trees n text (list_heads (tree x) (Some t) (map tree texts) (map (λ (y : Data). Some y) trees) are).1 there

-- the text of bindings is read behind those of playbooks
trees_more : (texts : List (List ℕ)) (trees : List Data) (text : List ℕ) (d : Data) → AreTreesOf texts trees → tree text ≡ Some d → AreTreesOf (texts ++ text ∷ []) (trees ++ d ∷ [])
trees_more [] [] text d are is = ap (λ (o : Option Data). o ∷ []) is
trees_more [] (t ∷ trees) text d are is = absurd (cc)
trees_more (x ∷ texts) [] text d are is = absurd (cc)
trees_more (x ∷ texts) (t ∷ trees) text d are is =
    let parts = list_heads (tree x) (Some t) (map tree texts) (map (λ (y : Data). Some y) trees) are in
    ap₂ (λ (o : Option Data) (os : List (Option Data)). o ∷ os) parts.0 (trees_more texts trees text d parts.1 is)

read_tree : (books : List (List ℕ)) (bind : List ℕ) (trees : List Data) (bindings : Data) (n : ℕ) (text : List ℕ) → AreTreesOf books trees → bindings_of bind ≡ Some bindings
    → slice_get (texts_read books bind) n ≡ Some text → HasData text
read_tree books [] trees bindings n text are bound there = tree_at books trees n text are there
read_tree books (b ∷ bytes) trees bindings n text are bound there =
    tree_at (books ++ (b ∷ bytes) ∷ []) (trees ++ bindings ∷ []) n text (trees_more books trees (b ∷ bytes) bindings are bound) there

pub not_accepted : (books : List (List ℕ)) (bind : List ℕ) (error : SetupError) → RefusesTexts books bind error → error ≢ Memory → NoneAccepted books bind
not_accepted books bind (Unreadable file e) h other given a =
    let r = read_tree books bind a.trees a.bindings file h.text a.trees_are a.bindings_are h.text_is in
    no_tree h.text e r.0 h.refused r.1
not_accepted books bind (Broken told) h other given a =
    let same : a.trees ≡ h.trees = one_trees books a.trees h.trees a.trees_are h.trees_are in
    h.first.least.is_broken (subst (λ (ts : List Data). Keeps ts Run h.first.demand) same (a.accepted.1 h.first.demand))
not_accepted books bind (Bind rule) h other given a =
    let same : a.trees ≡ h.trees = one_trees books a.trees h.trees a.trees_are h.trees_are in
    let bindings : a.bindings ≡ h.bindings = same_Some a.bindings h.bindings (sym a.bindings_are ∙ h.bindings_are) in
    let broken : BindRule = h.least.0 in
    h.least.2 (subst (λ (d : Data). KeepsBind FitsKind (first_variables h.trees) d broken) bindings
    (subst (λ (ts : List Data). KeepsBind FitsKind (first_variables ts) a.bindings broken) same (a.bound broken)))
not_accepted books bind Memory h other given a = other refl

-- ---- arms of an answer

pub none_arm : {A : Type 0} (N : Type 0) (S : A → Type 0) (o : Option A) → MatchOption o N S → ((x : A) → o ≢ Some x) → N
none_arm N S None h other = h
none_arm N S (Some x) h other = absurd (other x refl)

pub some_arm : {A : Type 0} (N : Type 0) (S : A → Type 0) (o : Option A) (x : A) → MatchOption o N S → o ≡ Some x → S x
some_arm N S o x h e = subst (λ p. MatchOption p N S) e h

-- ---- what a Begin holds

abbrev run_in : Record → ℕ
run_in (entry.Begin run moment books bind) = run
run_in other = 0

abbrev books_in : Record → List (List ℕ)
books_in (entry.Begin run moment books bind) = books
books_in other = []

abbrev bind_in : Record → List ℕ
bind_in (entry.Begin run moment books bind) = bind
bind_in other = []

accepted_as : (books texts : List (List ℕ)) (bind b : List ℕ) (given : Given) → books ≡ texts → bind ≡ b → Accepted AreAccepted FitsKind texts b given → Accepted AreAccepted FitsKind books bind given
accepted_as books texts bind b given p q a =
    subst (λ (x : List ℕ). Accepted AreAccepted FitsKind books x given) (sym q) (subst (λ (xs : List (List ℕ)). Accepted AreAccepted FitsKind xs b given) (sym p) a)

-- the texts of a Begin are accepted, by the fields of its record
held : (run moment : ℕ) (books : List (List ℕ)) (bind : List ℕ) (given : Given) (k : ℕ) → BeginsRun (entry.Begin run moment books bind) given k → Accepted AreAccepted FitsKind books bind given
held run moment books bind given k b = accepted_as books given.texts bind given.bind given (ap books_in b.is) (ap bind_in b.is) b.accepted

pub not_begun : (r : Record) (run moment : ℕ) (books : List (List ℕ)) (bind : List ℕ) → r ≡ entry.Begin run moment books bind → NoneAccepted books bind → BeginsNone r
not_begun r run moment books bind is none =
    subst BeginsNone (sym is) (λ given k b. none given (held run moment books bind given k b))

-- a record begins one run at most
pub one_begin : (r : Record) (g h : Given) (k n : ℕ) → BeginsRun r g k → BeginsRun r h n → (g ≡ h) × (k ≡ n)
one_begin r g h k n a b =
    let same : begin_of g k a.moment ≡ begin_of h n b.moment = sym a.is ∙ b.is in
    (accepted_one g.texts g.bind g h a.accepted (accepted_as g.texts h.texts g.bind h.bind h (ap books_in same) (ap bind_in same) b.accepted), ap run_in same)

-- ---- a Begin that is not taken

-- there is a first playbook
some_first : {A : Type 0} (xs : List A) (f : A → List Edit) → 1 ≤ length xs → option_map f (slice_get xs 0) ≡ None → ⊥
some_first [] f some h = omega (arith, some)
some_first (x ∷ xs) f some h = none-some (f x) (sym h)

has_first : (given : Given) (moment : ℕ) → 1 ≤ length given.books → first_edits given moment ≡ None → ⊥
has_first given moment some h =
    some_first given.books (λ book. opens None book.variables ∷ (map (λ b. writes 0 b.0 b.1) given.variables ++ makes (first_task given moment book) ∷ [])) some h

-- a Begin of this run that is not taken comes too late
pub first_late : (v : View) (r : Record) (given : Given) (run moment : ℕ) → v.count ≡ 0 → v.seen ≡ blank_shown given run → r ≡ begin_of given run moment → 1 ≤ length given.books
    → taken v r ≡ None → last_moment < moment
first_late v r given run moment c blank is some e = elim (cases_lt last_moment moment) [
  | inl late ↦ late
  | inr le ↦
      let none : begins (blank_shown given run) (begin_of given run moment) ≡ None =
      ap₂ (λ (s : Shown) (q : Record). begins s q) (sym blank) (sym is) ∙ taken_first v r None c e in
      absurd (has_first given moment some (sym (begins_own (blank_shown given run) moment le) ∙ none))
]

some_books : (books : List (List ℕ)) (bind : List ℕ) (given : Given) → Accepted AreAccepted FitsKind books bind given → 1 ≤ length given.books
some_books books bind given a =
    let many : length given.books ≡ length a.trees = ap (λ (g : Given). length g.books) a.given_is ∙ length-map a.trees book_of in
    omega (arith, a.accepted.0, many)

pub late_begun : (v : View) (run moment : ℕ) (books : List (List ℕ)) (bind : List ℕ) (own : Given) → Accepted AreAccepted FitsKind books bind own → v.count ≡ 0 → v.seen ≡ blank_shown own run
    → taken v (entry.Begin run moment books bind) ≡ None → BeginsNone (entry.Begin run moment books bind)
late_begun v run moment books bind own a count blank e given k b =
    let r : Record = entry.Begin run moment books bind in
    let one : given ≡ own = accepted_one books bind given own (held run moment books bind given k b) a in
    let is : r ≡ begin_of own run b.moment = b.is ∙ ap₂ (λ (g : Given) (n : ℕ). begin_of g n b.moment) one (sym (ap run_in b.is)) in
    let late : last_moment < b.moment = first_late v r own run b.moment count blank is (some_books books bind own a) e in
    omega (arith, late, b.in_time)

-- ---- a Begin that is taken

pub has_begun : (v w : View) (run moment : ℕ) (books : List (List ℕ)) (bind : List ℕ) (given : Given) → Accepted AreAccepted FitsKind books bind given → v.count ≡ 0 → v.seen ≡ blank_shown given run
    → Took v (entry.Begin run moment books bind) w → HasBegun (entry.Begin run moment books bind) w
has_begun v w run moment books bind given a count blank took =
    let r : Record = entry.Begin run moment books bind in
    let first : begins v.seen r ≡ Some took.edits = taken_first v r (Some took.edits) count took.takes in
    let f = is_first (blank_shown given run) r took.edits (ap (λ (s : Shown). begins s r) (sym blank) ∙ first) in
    let accepted : Accepted AreAccepted FitsKind given.texts given.bind given =
    accepted_as given.texts books given.bind bind given (sym (ap books_in f.is)) (sym (ap bind_in f.is)) a in
    let own : BeginsRun r given run = record { moment = moment; is = f.is; in_time = f.in_time; accepted = accepted } in
    let g : w.seen.given ≡ given = ap (λ (x : View). x.seen.given) took.new_is ∙ ap (λ (s : Shown). s.given) blank in
    let n : w.seen.run ≡ run = ap (λ (x : View). x.seen.run) took.new_is ∙ ap (λ (s : Shown). s.run) blank in
    record {
      begins = subst (λ (k : ℕ). BeginsRun r w.seen.given k) (sym n) (subst (λ (x : Given). BeginsRun r x run) (sym g) own);
      took = took_as v (idle w.seen.given w.seen.run) w r count (blank ∙ ap₂ (λ (x : Given) (k : ℕ). blank_shown x k) (sym g) (sym n)) took;
    }

-- the flow behind the Begin took that alone
pub begun_taken : (r : Record) (w : View) → HasBegun r w → HasTaken (r ∷ []) w
begun_taken r w h = took_more [] (idle w.seen.given w.seen.run) w r (took_none (idle w.seen.given w.seen.run) w.seen.given w.seen.run refl refl) h.took
