-- The moment of a run is never past the last one.
use Rattle.std.proofs.Common.{◌≡◌, ℕ, ◌≤◌, ◌&&◌, Bool, true, false, cond, List, [], ◌∷◌, ◌++◌, Option, Some, None, refl, sym, subst, ap, map}
use Rattle.std.specs.Prelude.{nat_le, option_map, slice_get}
use Rattle.std.proofs.lemmas.Bool.{leb-true}
use Rattle.run_records.specs.Ranges.{last_moment}
use Rattle.run_records.specs.declared.record.Record.{Record}
use Rattle.cacao_book.specs.declared.books.Book.{Book}
use Rattle.flow_core_rules.specs.Changes.{edits_of, is_in_time, moment_of}
use Rattle.flow_core_rules.specs.Edits.{Edit}
use Rattle.flow_core_rules.specs.Edits.Edit.{opens, writes, makes}
use Rattle.flow_core_rules.specs.Givens.{Given}
use Rattle.flow_core_rules.specs.Runs.{GoesOn, Leads, Next, after, begun, blank, first_task}
use Rattle.flow_core_rules.specs.State.{State, Shown, shown}

in_time : (s : Shown) (now : ℕ) (edits : List Edit) (o : Option (List Edit)) → (if_in : cond (is_in_time s now) o None ≡ Some edits) → now ≤ last_moment
in_time s now edits o h = by (nat_le s.moment now) (nat_le now last_moment) refl h
  where
    by : (p q : Bool) → nat_le now last_moment ≡ q → cond (p && q) o None ≡ Some edits → now ≤ last_moment
    by true true e g = leb-true now last_moment e
    by true false e g = absurd (cc)
    by false q e g = absurd (cc)

next_in_time : (s new : State) (r : Record) → Next s r new → new.moment ≤ last_moment
next_in_time s new r next =
    let low : moment_of r ≤ last_moment = in_time (shown s) (moment_of r) next.edits (edits_of (shown s) r) next.change_is in
    subst (λ (x : State). x.moment ≤ last_moment) (sym next.new_is) low

goes_in_time : (records : List Record) (s new : State) → s.moment ≤ last_moment → GoesOn s records new → new.moment ≤ last_moment
goes_in_time [] s new low g = subst (λ (x : State). x.moment ≤ last_moment) g low
goes_in_time (r ∷ records) s new low g = goes_in_time records g.0 new (next_in_time s g.0 r g.1) g.2

first_moment : (given : Given) (run now : ℕ) (first : State) → begun given run now ≡ Some first → first.moment ≡ now
first_moment given run now first e = by (slice_get given.books 0) e
  where
    by : (o : Option Book)
        → option_map (λ (es : List Edit). after now es (blank given run)) (option_map (λ (book : Book). opens None book.variables ∷ (map (λ b. writes 0 b.0 b.1) given.variables ++ makes (first_task given now book) ∷ [])) o) ≡ Some first
        → first.moment ≡ now
    by None h = absurd (cc)
    by (Some book) h =
        let es : List Edit = opens None book.variables ∷ (map (λ b. writes 0 b.0 b.1) given.variables ++ makes (first_task given now book) ∷ []) in
        let is : after now es (blank given run) ≡ first = cc in
        ap (λ (x : State). x.moment) (sym is)

pub moment_low : (given : Given) (run : ℕ) (records : List Record) (s : State) → Leads given run records s → s.moment ≤ last_moment
moment_low given run records s l =
    goes_in_time l.others l.first s (subst (λ (n : ℕ). n ≤ last_moment) (sym (first_moment given run l.now l.first l.begins)) l.in_time) l.goes_on
