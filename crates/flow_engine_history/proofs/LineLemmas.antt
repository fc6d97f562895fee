-- The record with a number, and the key that its line says.
use Rattle.std.proofs.Common.{◌≡◌, ◌&&◌, ℕ, zero, suc, ◌<◌, ◌≤◌, nat_le, Bool, true, false, List, [], ◌∷◌, length, get_or, Option, Some, None, arith, refl, ap, sym, subst, ◌∙◌, if◌then◌else◌}
use Rattle.std.specs.Prelude.{option_and_then, option_map, slice_get, slice_index_or, take, unwrap_or}
use Rattle.std.specs.List.{AllByRecursion}
use Rattle.std.proofs.lemmas.Option.{get_or_from_slice_get, none-some, slice_get_past, slice_get_within}
use Rattle.run_records.specs.Ranges.{InRange}
use Rattle.run_records.specs.Reading.{record_of}
use Rattle.run_records.specs.declared.record.Record.{Record}
use Rattle.run_records.specs.declared.record.Record.TheVariants as entry
use Rattle.run_records.proofs.ReadLemmas.{record_again}
use Rattle.flow_core_rules.specs.Givens.{Given, step_at}
use Rattle.flow_core_rules.specs.Lines.{key_of}
use Rattle.flow_core_rules.specs.Runs.{Leads, GoesOn, begin_of}
use Rattle.flow_core_rules.specs.State.{State, Shown}
use Rattle.flow_core_rules.specs.declared.tasks.Task.{Task}
use Rattle.flow_core_rules.specs.Laws.{HasPlacedWrites}
use Rattle.flow_core_rules.proofs.PlacedLemmas.{records_shown, first_shown}
use Rattle.flow_core.specs.Setups.{IsSetup}
use Rattle.flow_engine_history.specs.declared.history.History.TheInside.{Inside}
use Rattle.flow_engine_history.specs.HistoryView.{entries_of}
use Rattle.flow_engine_history.specs.Histories.{IsShownBefore, IsSoFar}
use Rattle.flow_engine_history.specs.KeptHistory.{IsKept, IsStand, history_view, narrow, records_of, stand_before}
use Rattle.flow_engine_history.specs.LineParts.{IsKeyAt, IsKeyFor, key_at}

inner : {A : Type 0} (a b : A) → Some a ≡ Some b → a ≡ b
inner a b h = cc

-- ---- the record with a number

at_back : (rs : List Record) (n : ℕ) → AllByRecursion InRange rs → n < length rs → record_of (slice_index_or (entries_of rs) n []) ≡ slice_get rs n
at_back [] n ranges lt = absurd (omega (arith, lt))
at_back (r ∷ rs) zero ranges lt = record_again r ranges.0
at_back (r ∷ rs) (suc n) ranges lt = at_back rs n ranges.1 (omega (arith, lt))

pub record_there : (h : Inside) (n : ℕ) → IsKept h → n < length (records_of h.journal.items) → record_of (slice_index_or h.journal.items n []) ≡ slice_get (records_of h.journal.items) n
record_there h n kept lt =
    ap (λ (l : List (List ℕ)). record_of (slice_index_or l n [])) kept.entries ∙ at_back (records_of h.journal.items) n kept.ranges lt

pub in_range_at : (rs : List Record) (n : ℕ) (r : Record) → AllByRecursion InRange rs → slice_get rs n ≡ Some r → InRange r
in_range_at [] n r ranges e = absurd (none-some r e)
in_range_at (x ∷ rs) zero r ranges e = subst InRange (inner x r e) ranges.0
in_range_at (x ∷ rs) (suc n) r ranges e = in_range_at rs n r ranges.1 e

-- ---- a run keeps what it was given

given_on : (s new : State) (rs : List Record) → HasPlacedWrites s → GoesOn s rs new → new.given ≡ s.given
given_on s new [] placed g = ap (λ (x : State). x.given) (sym g)
given_on s new (r ∷ rs) placed g =
    let alone = records_shown s g.0 r placed g.1 in
    given_on g.0 new rs alone.placed g.2 ∙ ap (λ (x : Shown). x.given) alone.shown_is

pub leads_given : (given : Given) (run : ℕ) (rs : List Record) (state : State) → Leads given run rs state → state.given ≡ given
leads_given given run rs state l =
    let f = first_shown given run l.now l.first l.begins in
    given_on l.first state l.others f.placed l.goes_on ∙ ap (λ (x : Shown). x.given) f.shown_is

-- ---- numbers in 16 bits each lead to the same step

le-false : (n m : ℕ) → nat_le n m ≡ false → m < n
le-false n m e = grind arith

module _ {B S : Type 0} where
  -- there is no list with this number
  no_list : (lists : List B) (items_of : B → List S) (n k : ℕ) → length lists ≤ n → option_and_then (λ (b : B). slice_get (items_of b) k) (slice_get lists n) ≡ None
  no_list lists items_of n k le = ap (option_and_then (λ (b : B). slice_get (items_of b) k)) (slice_get_past lists n le)

  -- it has no item with this number
  no_item : (lists : List B) (items_of : B → List S) (n k : ℕ) → ((b : B) → n < length lists → length (items_of (get_or lists n b)) ≤ k)
      → option_and_then (λ (b : B). slice_get (items_of b) k) (slice_get lists n) ≡ None
  no_item lists items_of n k few = by (slice_get lists n) refl
    where
      by : (o : Option B) → slice_get lists n ≡ o → option_and_then (λ (b : B). slice_get (items_of b) k) o ≡ None
      by None e = refl
      by (Some b) e =
          slice_get_past (items_of b) k (subst (λ (x : B). length (items_of x) ≤ k) (get_or_from_slice_get lists n b b e) (few b (slice_get_within lists n b e)))

no_text : {S : Type 0} (o : Option S) (text_of : S → List ℕ) → o ≡ None → unwrap_or (option_map text_of o) [] ≡ []
no_text {S} o text_of e = ap (λ (x : Option S). unwrap_or (option_map text_of x) []) e

-- there is no playbook behind the sixteenth
no_book : (given : Given) (book step : ℕ) → IsSetup given → 16 ≤ book → step_at given book step ≡ None
no_book given book step setup le = no_list given.books (λ b. b.steps) book step (omega (arith, setup.few, le))

-- each has at most 4,096 steps
no_step : (given : Given) (book step : ℕ) → IsSetup given → 4096 ≤ step → step_at given book step ≡ None
no_step given book step setup le = no_item given.books (λ b. b.steps) book step (λ b lt. omega (arith, (setup.steps book b lt).few, le))

no_key : (given : Given) (book step : ℕ) → step_at given book step ≡ None → key_at given (book, step) ≡ []
no_key given book step e = no_text (step_at given book step) (λ s. s.key) e

nowhere : (given : Given) → IsSetup given → key_at given (65535, 0) ≡ []
nowhere given setup = no_key given 65535 0 (no_book given 65535 0 setup (omega arith))

narrow_is : (given : Given) (book step : ℕ) → IsSetup given → key_at given (narrow (Some (book, step))) ≡ key_at given (book, step)
narrow_is given book step setup = by (nat_le book 65535) (nat_le step 65535) refl refl
  where
    by : (p q : Bool) → nat_le book 65535 ≡ p → nat_le step 65535 ≡ q → key_at given (if p && q then (book, step) else (65535, 0)) ≡ key_at given (book, step)
    by true true e f = refl
    by true false e f = nowhere given setup ∙ sym (no_key given book step (no_step given book step setup (omega (arith, le-false step 65535 f))))
    by false q e f = nowhere given setup ∙ sym (no_key given book step (no_book given book step setup (omega (arith, le-false book 65535 e))))

-- ---- the key

key_is : (given : Given) (before : Shown) (r : Record) → IsSetup given → before.given ≡ given → IsKeyFor before r (key_at given (stand_before before r))
key_is given before (entry.Walk task moment) setup g =
    subst (λ (x : Given). key_at x (stand_before before (entry.Walk task moment)) ≡ key_of before task) g (by (slice_get before.lists.tasks task))
  where
    own : IsSetup before.given
    own = subst IsSetup (sym g) setup

    by : (o : Option Task) → key_at before.given (narrow (option_map (λ (one : Task). (one.book, one.step)) o)) ≡ unwrap_or (option_map (λ step. step.key) (option_and_then (λ (one : Task). step_at before.given one.book one.step) o)) []
    by None = nowhere before.given own
    by (Some t) = narrow_is before.given t.book t.step own
key_is given before (entry.Begin run moment books bind) setup g = tt
key_is given before (entry.Send task issue agent moment bytes) setup g = tt
key_is given before (entry.Reply issue moment status rule text) setup g = tt
key_is given before (entry.Expire issue moment) setup g = tt
key_is given before (entry.Upgrade version moment) setup g = tt
key_is given before (entry.Ask task issue moment bytes) setup g = tt
key_is given before (entry.Told issue moment status text) setup g = tt

head_is : (a b : Record) (xs ys : List Record) → a ∷ xs ≡ b ∷ ys → a ≡ b
head_is a b xs ys e = cc

key_before : (seen : Shown) (rs : List Record) (n : ℕ) (r : Record) (before : Shown) → IsSetup seen.given → IsSoFar rs seen → slice_get rs n ≡ Some r → IsShownBefore seen.given seen.run (take n rs) before
    → IsKeyFor before r (key_at seen.given (stand_before before r))
key_before seen [] n r before setup so_far e shows = absurd (none-some r e)
key_before seen (first ∷ others) zero r before setup so_far e shows =
    let l : Leads seen.given seen.run (first ∷ others) so_far.state = so_far.leads in
    let begins : first ≡ begin_of seen.given seen.run l.now = head_is first (begin_of seen.given seen.run l.now) others l.others l.records_are in
    let is : begin_of seen.given seen.run l.now ≡ r = sym begins ∙ inner first r e in
    subst (λ (q : Record). IsKeyFor before q (key_at seen.given (stand_before before q))) is (tt {0})
key_before seen (first ∷ others) (suc n) r before setup so_far e shows =
    key_is seen.given before r setup (ap (λ (x : Shown). x.given) shows.is ∙ leads_given seen.given seen.run (first ∷ take n others) shows.state shows.leads)

pub key_there : (h : Inside) (n : ℕ) (r : Record) (stand : ℕ × ℕ) → IsSetup h.flow.seen.given → IsKept h → slice_get (records_of h.journal.items) n ≡ Some r → slice_get h.stands.items n ≡ Some stand
    → IsKeyAt (history_view h) n r (key_at h.flow.seen.given stand)
key_there h n r stand setup kept e there =
    let was : IsStand h.flow.seen.given h.flow.seen.run (records_of h.journal.items) h.stands.items n r = kept.stands n r e in
    let same : stand_before was.before r ≡ stand = inner {A = ℕ × ℕ} (stand_before was.before r) stand (sym was.kept ∙ there) in
    record {
      before = was.before;
      shows = was.shows;
      key_is = subst (λ (s : ℕ × ℕ). IsKeyFor was.before r (key_at h.flow.seen.given s)) same (key_before h.flow.seen (records_of h.journal.items) n r was.before setup kept.so_far e was.shows);
    }
