-- What a flow keeps.
use Rattle.std.proofs.Common.{◌≡◌, ℕ, zero, suc, ◌+◌, ◌<◌, ◌≤◌, ◌==◌, ◌&&◌, ◌||◌, Bool, true, false, cond, not, List, [], ◌∷◌, ◌++◌, length, Option, Some, None, arith, refl, ap, ap₂, sym, subst, ◌∙◌, length-append, inl, inr}
use Rattle.std.specs.Prelude.{IfSome, map, slice_get, option_map, nat_le, nat_eq, count_by}
use Rattle.std.specs.List.{list_any}
use Rattle.std.specs.Str.{bytes_eq}
use Rattle.std.specs.Cmp.Lexicographic.{pointwise}
use Rattle.std.proofs.lemmas.Bool.{and_from, and_parts, eq-eqb, eqb-true, le-leb, leb-true}
use Rattle.std.proofs.lemmas.Option.{none-some}
use Rattle.std.proofs.lemmas.Slice.Eq.{bytes_eq-Decides, slice_eq-Decides}
use Rattle.run_records.specs.Ranges.{last_moment}
use Rattle.run_records.specs.declared.record.Record.{Record}
use Rattle.run_records.specs.declared.record.Record.TheVariants as entry
use Rattle.cacao_book.specs.declared.books.Book.{Book}
use Rattle.flow_core_rules.specs.declared.tasks.Task.{Task}
use Rattle.flow_core_rules.specs.Givens.{Given}
use Rattle.flow_core_rules.specs.State.{Shown, Lists, shown}
use Rattle.flow_core_rules.specs.Edits.{Edit, shown_edited, all_shown_edited, changed_at, closed}
use Rattle.flow_core_rules.specs.Edits.Edit.{opens, writes, makes, moves, issues, closes, upgrades}
use Rattle.flow_core_rules.specs.Runnable.{IsRunnable}
use Rattle.flow_core_rules.specs.Sane.{IsSane}
use Rattle.flow_core_rules.specs.Changes.{change, moment_of}
use Rattle.flow_core_rules.specs.Runs.{begin_of, first_task, first_edits, shown_after}
use Rattle.flow_core_rules.proofs.TaskLemmas.{AreFine, set_length}
use Rattle.std.proofs.lemmas.List.Recursion.{is_count_by}
use Rattle.flow_core_rules.proofs.QuietLemmas.{IsQuiet}
use Rattle.flow_core_rules.proofs.OrderLemmas.{change_fine}
use Rattle.flow_core_rules.proofs.PlacedLemmas.{Placed, change-placed}
use Rattle.flow_core_rules.proofs.SaneRuns.{Sound, runs_are_sound}
use Rattle.flow_core_plans.specs.Fits.{AllFit, IsNewTask}
use Rattle.flow_core_plans.specs.TableFacts.{blank_lists}
use Rattle.flow_core.specs.Views.{View, begins, taken, is_makes}
use Rattle.flow_core.specs.Flows.{IsStateOf, IsReached}
use Rattle.flow_core.proofs.EditFits.{Shaped, with_end, fits_shaped}
use Rattle.flow_core.proofs.ShapedLemmas.{change_shaped, change_in_time, moment_within}
use Rattle.flow_core.proofs.ReachedLemmas.{reached_first, reached_next, sane_reached}

clash : (b : Bool) → b ≡ true → b ≡ false → ⊥
clash true x y = cc
clash false x y = cc

-- ---- the state of a run

pub reached_state : (n : ℕ) (seen : Shown) → (n ≡ 0 → ⊥) → IsReached n seen → IsStateOf n seen
reached_state zero seen apart h = absurd (apart refl)
reached_state (suc n) seen apart h = h

pub sane_now : (n : ℕ) (seen : Shown) → (n ≡ 0 → ⊥) → IsRunnable seen.given → IsReached n seen → IsSane seen
sane_now n seen apart runnable h = sane_reached n seen runnable (reached_state n seen apart h)

-- ---- what a record changes fits the tables

pub change_fits : (n : ℕ) (seen : Shown) (r : Record) (edits : List Edit) → IsRunnable seen.given → IsStateOf n seen → length seen.lists.texts ≡ length seen.lists.scopes → change seen r ≡ Some edits → AllFit seen.lists edits
change_fits n seen r edits runnable h len e =
    let sound : Sound h.state = runs_are_sound seen.given seen.run h.records h.state runnable h.leads in
    let there : change (shown h.state) r ≡ Some edits = subst (λ (x : Shown). change x r ≡ Some edits) (sym h.shown_is) e in
    let lists : Lists = (shown h.state).lists in
    let same_len : length lists.texts ≡ length lists.scopes = subst (λ (x : Shown). length x.lists.texts ≡ length x.lists.scopes) (sym h.shown_is) len in
    let fine : AreFine lists.tasks edits = change_fine (shown h.state) r edits sound.ordered.order there in
    let placed : Placed (length lists.scopes) edits = subst (λ o. IfSome o (Placed (length lists.scopes))) there (change-placed (shown h.state) r) in
    let shaped : Shaped lists edits = change_shaped (shown h.state) r edits sound.known.agree there in
    subst (λ (x : Shown). AllFit x.lists edits) h.shown_is (fits_shaped lists edits same_len sound.ordered.some sound.ordered.order fine placed shaped)

-- the writes of bound texts, and then the first task
bound_fit : (s : Lists) (bound : List (List ℕ × List ℕ)) (task : Task) → 0 < length s.texts → ((texts : List (List (List ℕ × Option (List ℕ)))) → IsNewTask (record s { texts = texts }) task)
    → AllFit s (map (λ b. writes 0 b.0 b.1) bound ++ makes task ∷ [])
bound_fit s [] task some new = (new s.texts, tt)
bound_fit s (b ∷ bound) task some new =
    (some, bound_fit (shown_edited (writes 0 b.0 b.1) s) bound task (subst (λ n. 0 < n) (sym (same s.texts)) some) new)
  where
    same : (xs : List (List (List ℕ × Option (List ℕ)))) → length (changed_at 0 (λ texts. map (λ entry. (entry.0, cond (bytes_eq b.0 entry.0) (Some b.1) entry.1)) texts) xs) ≡ length xs
    same [] = refl
    same (x ∷ xs) = refl

pub first_fits : (given : Given) (now : ℕ) (edits : List Edit) → now ≤ last_moment → first_edits given now ≡ Some edits → AllFit blank_lists edits
first_fits given now edits le e = by (slice_get given.books 0) e
  where
    none_some : None ≡ Some edits → ⊥
    none_some g = cc

    inner : (a b : List Edit) → Some a ≡ Some b → a ≡ b
    inner a b g = cc

    by : (o : Option Book) → option_map (λ (book : Book). opens None book.variables ∷ (map (λ b. writes 0 b.0 b.1) given.variables ++ makes (first_task given now book) ∷ [])) o ≡ Some edits → AllFit blank_lists edits
    by None g = absurd (none_some g)
    by (Some book) g =
        let es : List Edit = opens None book.variables ∷ (map (λ b. writes 0 b.0 b.1) given.variables ++ makes (first_task given now book) ∷ []) in
        let s : Lists = shown_edited (opens None book.variables) blank_lists in
        subst (AllFit blank_lists) (inner es edits g)
        (tt, bound_fit s given.variables (first_task given now book) (omega arith) (λ texts. record { since = now; phase_is = refl; in_time = le; parent = tt }))

-- ---- what comes first, and what comes later

pub not_zero : (n : ℕ) → (suc n == 0) ≡ false
not_zero n = grind arith

pub taken_first : (v : View) (r : Record) (o : Option (List Edit)) → v.count ≡ 0 → taken v r ≡ o → begins v.seen r ≡ o
taken_first v r o c e = subst (λ k. cond (not (k == 0)) (change v.seen r) (begins v.seen r) ≡ o) c e

pub taken_later : (v : View) (r : Record) (o : Option (List Edit)) (n : ℕ) → v.count ≡ suc n → taken v r ≡ o → change v.seen r ≡ o
taken_later v r o n c e = subst (λ b. cond (not b) (change v.seen r) (begins v.seen r) ≡ o) (ap (λ k. k == 0) c ∙ not_zero n) e

-- ---- the Begin

-- the record is the Begin of the run, and changes so much
pub record IsFirst (s : Shown) (r : Record) (edits : List Edit) : Type 0 where
  pub is : r ≡ begin_of s.given s.run (moment_of r)
  pub in_time : moment_of r ≤ last_moment
  pub edits_are : first_edits s.given (moment_of r) ≡ Some edits

abbrev is_own : Shown → ℕ → ℕ → List (List ℕ) → List ℕ → Bool
is_own s run moment books bind = nat_le moment last_moment && (run == s.run) && pointwise (pointwise nat_eq) books s.given.texts && bytes_eq bind s.given.bind

same_begin : (s : Shown) (run moment : ℕ) (books : List (List ℕ)) (bind : List ℕ) → run ≡ s.run → books ≡ s.given.texts → bind ≡ s.given.bind → entry.Begin run moment books bind ≡ begin_of s.given s.run moment
same_begin s run moment books bind p q h =
    ap (λ (n : ℕ). entry.Begin n moment books bind) p ∙ ap₂ (λ (xs : List (List ℕ)) (x : List ℕ). entry.Begin s.run moment xs x) q h

first_by : (s : Shown) (run moment : ℕ) (books : List (List ℕ)) (bind : List ℕ) (edits : List Edit) (b : Bool) → b ≡ is_own s run moment books bind → cond b (first_edits s.given moment) None ≡ Some edits
    → IsFirst s (entry.Begin run moment books bind) edits
first_by s run moment books bind edits false g h = absurd (none-some edits h)
first_by s run moment books bind edits true g h =
    let texts = pointwise (pointwise nat_eq) books s.given.texts in
    let a = and_parts (nat_le moment last_moment && (run == s.run) && texts) (bytes_eq bind s.given.bind) (sym g) in
    let b = and_parts (nat_le moment last_moment && (run == s.run)) texts a.0 in
    let c = and_parts (nat_le moment last_moment) (run == s.run) b.0 in
    record {
      is = same_begin s run moment books bind (eqb-true run s.run c.1) ((slice_eq-Decides bytes_eq-Decides books s.given.texts texts refl).0 b.1) ((bytes_eq-Decides bind s.given.bind).0 a.1);
      in_time = leb-true moment last_moment c.0;
      edits_are = h;
    }

pub is_first : (s : Shown) (r : Record) (edits : List Edit) → begins s r ≡ Some edits → IsFirst s r edits
is_first s (entry.Begin run moment books bind) edits e = first_by s run moment books bind edits (is_own s run moment books bind) refl e
is_first s (entry.Walk task moment) edits e = absurd (none-some edits e)
is_first s (entry.Send task issue agent moment bytes) edits e = absurd (none-some edits e)
is_first s (entry.Reply issue moment status rule text) edits e = absurd (none-some edits e)
is_first s (entry.Expire issue moment) edits e = absurd (none-some edits e)
is_first s (entry.Upgrade version moment) edits e = absurd (none-some edits e)
is_first s (entry.Ask task issue moment bytes) edits e = absurd (none-some edits e)
is_first s (entry.Told issue moment status text) edits e = absurd (none-some edits e)

pub begins_first : (s : Shown) (r : Record) (edits : List Edit) → begins s r ≡ Some edits → (moment_of r ≤ last_moment) × (first_edits s.given (moment_of r) ≡ Some edits)
begins_first s r edits e = let f = is_first s r edits e in (f.in_time, f.edits_are)

pub begin_is : (s : Shown) (r : Record) (edits : List Edit) → begins s r ≡ Some edits → r ≡ begin_of s.given s.run (moment_of r)
begin_is s r edits e = (is_first s r edits e).is

-- and the Begin of the run comes first
pub begins_own : (s : Shown) (moment : ℕ) → moment ≤ last_moment → begins s (begin_of s.given s.run moment) ≡ first_edits s.given moment
begins_own s moment le =
    let texts : pointwise (pointwise nat_eq) s.given.texts s.given.texts ≡ true =
    (slice_eq-Decides bytes_eq-Decides s.given.texts s.given.texts (pointwise (pointwise nat_eq) s.given.texts s.given.texts) refl).1 refl in
    let here : (nat_le moment last_moment && (s.run == s.run)) ≡ true = and_from (nat_le moment last_moment) (s.run == s.run) (le-leb moment last_moment le) (eq-eqb s.run s.run refl) in
    let all : is_own s s.run moment s.given.texts s.given.bind ≡ true =
    and_from (nat_le moment last_moment && (s.run == s.run) && pointwise (pointwise nat_eq) s.given.texts s.given.texts) (bytes_eq s.given.bind s.given.bind)
    (and_from (nat_le moment last_moment && (s.run == s.run)) (pointwise (pointwise nat_eq) s.given.texts s.given.texts) here texts) ((bytes_eq-Decides s.given.bind s.given.bind).1 refl) in
    ap (λ b. cond b (first_edits s.given moment) None) all

-- ---- a record that is taken

-- its edits fit
pub taken_fits : (n : ℕ) (v : View) (r : Record) (edits : List Edit) → v.count ≡ n → IsRunnable v.seen.given → IsReached n v.seen → length v.seen.lists.texts ≡ length v.seen.lists.scopes → taken v r ≡ Some edits → AllFit v.seen.lists edits
taken_fits zero v r edits c runnable h len e =
    let b : begins v.seen r ≡ Some edits = taken_first v r (Some edits) c e in
    let f = begins_first v.seen r edits b in
    subst (λ (x : Shown). AllFit x.lists edits) (sym h) (first_fits v.seen.given (moment_of r) edits f.0 f.1)
taken_fits (suc n) v r edits c runnable h len e =
    let g : change v.seen r ≡ Some edits = taken_later v r (Some edits) n c e in
    change_fits (suc n) v.seen r edits runnable h len g

-- it leads to the state of a run of one record more, within the limit on moments
pub taken_reaches : (n : ℕ) (v : View) (r : Record) (edits : List Edit) → v.count ≡ n → IsReached n v.seen → taken v r ≡ Some edits → IsStateOf (suc n) (shown_after (moment_of r) edits v.seen) × (moment_of r ≤ last_moment)
taken_reaches zero v r edits c h e =
    let b : begins v.seen r ≡ Some edits = taken_first v r (Some edits) c e in
    let f = begins_first v.seen r edits b in
    let first = reached_first v.seen.given v.seen.run (moment_of r) edits f.0 f.1 in
    (subst (λ (x : Shown). IsStateOf 1 (shown_after (moment_of r) edits x)) (sym h) first, f.0)
taken_reaches (suc n) v r edits c h e =
    let g : change v.seen r ≡ Some edits = taken_later v r (Some edits) n c e in
    (reached_next (suc n) v.seen r edits h g, (moment_within v.seen (moment_of r) (change_in_time v.seen r edits g)).1)

-- ---- how many tasks and issues there are behind edits

abbrev pub makes_in : List Edit → ℕ
makes_in [] = 0
makes_in (e ∷ es) = cond (is_makes e) (1 + makes_in es) (makes_in es)

grown : (es : List Edit) (s : Lists) → length (all_shown_edited es s).tasks ≡ length s.tasks + makes_in es
grown [] s = omega arith
grown (opens parent vars ∷ es) s = grown es (shown_edited (opens parent vars) s)
grown (writes scope name text ∷ es) s = grown es (shown_edited (writes scope name text) s)
grown (makes task ∷ es) s =
    let rest : length (all_shown_edited es (shown_edited (makes task) s)).tasks ≡ length (s.tasks ++ task ∷ []) + makes_in es = grown es (shown_edited (makes task) s) in
    rest ∙ omega (arith, length-append s.tasks (task ∷ []))
grown (moves t task ∷ es) s = grown es (shown_edited (moves t task) s) ∙ ap (λ n. n + makes_in es) (set_length s.tasks t task)
grown (issues issue ∷ es) s = grown es (shown_edited (issues issue) s)
grown (closes i end ∷ es) s = grown es (shown_edited (closes i end) s)
grown (upgrades ∷ es) s = grown es (shown_edited upgrades s)

pub tasks_grow : (es : List Edit) (s : Lists) → length (all_shown_edited es s).tasks ≡ length s.tasks + count_by is_makes es
tasks_grow es s = grown es s ∙ ap (λ n. length s.tasks + n) (is_count_by makes_in is_makes refl (λ x xs. refl) es)

quiet_issues : (es : List Edit) (s : Lists) → IsQuiet es → (all_shown_edited es s).issues ≡ s.issues
quiet_issues [] s q = refl
quiet_issues (opens parent vars ∷ es) s q = quiet_issues es (shown_edited (opens parent vars) s) q
quiet_issues (writes scope name text ∷ es) s q = quiet_issues es (shown_edited (writes scope name text) s) q
quiet_issues (makes task ∷ es) s q = quiet_issues es (shown_edited (makes task) s) q
quiet_issues (moves t task ∷ es) s q = quiet_issues es (shown_edited (moves t task) s) q
quiet_issues (issues issue ∷ es) s q = absurd (clash false q refl)
quiet_issues (closes i end ∷ es) s q = absurd (clash false q refl)
quiet_issues (upgrades ∷ es) s q = absurd (clash false q refl)

changed_length : {A : Type 0} (n : ℕ) (f : A → A) (xs : List A) → length (changed_at n f xs) ≡ length xs
changed_length n f [] = refl
changed_length zero f (x ∷ xs) = refl
changed_length (suc n) f (x ∷ xs) = ap suc (changed_length n f xs)

shaped_issues : (s : Lists) (es : List Edit) → Shaped s es → length (all_shown_edited es s).issues ≤ suc (length s.issues)
shaped_issues s es (inl c) = let e : length (all_shown_edited es s).issues ≡ length s.issues = ap length (quiet_issues es s c.quiet) in omega arith
shaped_issues s es (inr (inl i)) =
    subst (λ (xs : List Edit). length (all_shown_edited xs s).issues ≤ suc (length s.issues)) (sym i.es_are) (let e = length-append s.issues (i.issue ∷ []) in omega (arith, e))
shaped_issues s es (inr (inr (inl c))) =
    let rest : length (all_shown_edited c.rest (with_end c.number c.end s)).issues ≡ length (with_end c.number c.end s).issues = ap length (quiet_issues c.rest (with_end c.number c.end s) c.calm.quiet) in
    let same : length (with_end c.number c.end s).issues ≡ length s.issues = changed_length c.number (closed c.end) s.issues in
    subst (λ (xs : List Edit). length (all_shown_edited xs s).issues ≤ suc (length s.issues)) (sym c.es_are) (omega (arith, rest, same))
shaped_issues s es (inr (inr (inr e))) = subst (λ (xs : List Edit). length (all_shown_edited xs s).issues ≤ suc (length s.issues)) (sym e) (omega arith)

bound_quiet : (bound : List (List ℕ × List ℕ)) (task : Task) → IsQuiet (map (λ b. writes 0 b.0 b.1) bound ++ makes task ∷ [])
bound_quiet [] task = refl
bound_quiet (b ∷ bound) task = bound_quiet bound task

pub first_quiet : (given : Given) (now : ℕ) (edits : List Edit) → first_edits given now ≡ Some edits → IsQuiet edits
first_quiet given now edits e = by (slice_get given.books 0) e
  where
    none_some : None ≡ Some edits → ⊥
    none_some g = cc

    inner : (a b : List Edit) → Some a ≡ Some b → a ≡ b
    inner a b g = cc

    by : (o : Option Book) → option_map (λ (book : Book). opens None book.variables ∷ (map (λ b. writes 0 b.0 b.1) given.variables ++ makes (first_task given now book) ∷ [])) o ≡ Some edits → IsQuiet edits
    by None g = absurd (none_some g)
    by (Some book) g = subst IsQuiet (inner (opens None book.variables ∷ (map (λ b. writes 0 b.0 b.1) given.variables ++ makes (first_task given now book) ∷ [])) edits g) (bound_quiet given.variables (first_task given now book))

-- a record makes one issue at most
pub issues_grow : (n : ℕ) (v : View) (r : Record) (edits : List Edit) → v.count ≡ n → IsRunnable v.seen.given → IsReached n v.seen → taken v r ≡ Some edits
    → length (all_shown_edited edits v.seen.lists).issues ≤ suc (length v.seen.lists.issues)
issues_grow zero v r edits c runnable h e =
    let b : begins v.seen r ≡ Some edits = taken_first v r (Some edits) c e in
    let f = begins_first v.seen r edits b in
    let same : length (all_shown_edited edits v.seen.lists).issues ≡ length v.seen.lists.issues = ap length (quiet_issues edits v.seen.lists (first_quiet v.seen.given (moment_of r) edits f.1)) in
    omega arith
issues_grow (suc n) v r edits c runnable h e =
    let g : change v.seen r ≡ Some edits = taken_later v r (Some edits) n c e in
    let sound : Sound h.state = runs_are_sound v.seen.given v.seen.run h.records h.state runnable h.leads in
    let there : change (shown h.state) r ≡ Some edits = subst (λ (x : Shown). change x r ≡ Some edits) (sym h.shown_is) g in
    let shaped : Shaped (shown h.state).lists edits = change_shaped (shown h.state) r edits sound.known.agree there in
    subst (λ (x : Shown). length (all_shown_edited edits x.lists).issues ≤ suc (length x.lists.issues)) h.shown_is (shaped_issues (shown h.state).lists edits shaped)

-- ---- counts over edits that were made ready

abbrev counted : {A : Type 0} → (A → Bool) → List A → ℕ
counted p [] = 0
counted p (x ∷ xs) = cond (p x) (1 + counted p xs) (counted p xs)

counted_is : {A : Type 0} (p : A → Bool) (xs : List A) → counted p xs ≡ count_by p xs
counted_is p xs = is_count_by (counted p) p refl (λ y ys. refl) xs

counted_mapped : {A B : Type 0} (p : B → Bool) (f : A → B) (xs : List A) → counted p (map f xs) ≡ counted (λ x. p (f x)) xs
counted_mapped p f [] = refl
counted_mapped p f (x ∷ xs) = ap (λ n. cond (p (f x)) (1 + n) n) (counted_mapped p f xs)

pub count_mapped : {A B : Type 0} (p : B → Bool) (f : A → B) (xs : List A) → count_by p (map f xs) ≡ count_by (λ x. p (f x)) xs
count_mapped p f xs = sym (counted_is p (map f xs)) ∙ counted_mapped p f xs ∙ counted_is (λ x. p (f x)) xs

pub any_mapped : {A B : Type 0} (p : B → Bool) (f : A → B) (xs : List A) → list_any p (map f xs) ≡ list_any (λ x. p (f x)) xs
any_mapped p f [] = refl
any_mapped p f (x ∷ xs) = ap (λ b. p (f x) || b) (any_mapped p f xs)
