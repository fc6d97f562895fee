-- What is due in a turn of a fleet whose take found no parcel: no two of these hold together.
use Rattle.std.proofs.Common.{◌≡◌, ◌≢◌, inl, inr, ℕ, ◌+◌, ◌-◌, ◌<◌, ◌≤◌, Bool, true, false, List, length, refl, sym, ◌∙◌, subst, ap, arith}
use Rattle.std.specs.Prelude.{◌↔◌, Option, Some, None, IfSome, nat_le, slice_get, if◌then◌else◌}
use Rattle.std.proofs.lemmas.Bool.{cases_lt, false≢true}
use Rattle.std.proofs.lemmas.Option.{none-some}
use Rattle.base_dues.specs.Pairs.{IsFirstBy}
use Rattle.flow_core_rules.specs.Moves.{asks}
use Rattle.flow_engine.specs.EngineCalls.{put_deadline}
use Rattle.flow_engine.specs.EngineView.{EngineView}
use Rattle.flow_engine.specs.OpenIssues.{IsNextPut}
use Rattle.flow_world_steps.proofs.Basics.{same_some}
use Rattle.flow_world_parts.proofs.DueSteps.{no_put, same_put}
use Rattle.flow_fleet_steps.specs.Turns.{HasNoResend, HasNoneOverdue, IsTurnOf, from_to}
use Rattle.flow_fleet.specs.Dues.{IsFleetDue, IsToAsk, IsToExpire, IsToResend, IsToWait}
use Rattle.flow_fleet.specs.declared.due.FleetDue.{FleetDue}
use Rattle.flow_fleet.specs.declared.due.FleetDue.TheVariants as kind
use Rattle.flow_fleet.proofs.RecordLemmas.{same_run, turn_within}

-- ---- places

same_place : (n m : ℕ) → (n < m → ⊥) → (m < n → ⊥) → n ≡ m
same_place n m less more = elim (cases_lt n m) [
  | inl lt ↦ absurd (less lt)
  | inr le ↦ elim (cases_lt m n) [
    | inl gt ↦ absurd (more gt)
    | inr ge ↦ omega (arith, le, ge)
  ]
]

-- around the circle from the turn on each place has its own distance
same_distance : (n turn a b : ℕ) → turn < n → a < n → b < n → from_to n turn a ≡ from_to n turn b → a ≡ b
same_distance n turn a b low in_a in_b = by (nat_le turn a) (nat_le turn b) refl refl
  where
    by : (p q : Bool) → nat_le turn a ≡ p → nat_le turn b ≡ q → (if p then a - turn else a + n - turn) ≡ (if q then b - turn else b + n - turn) → a ≡ b
    by true true e f same = let le : turn ≤ a = grind (arith, e) in let ge : turn ≤ b = grind (arith, f) in omega (arith, same, le, ge)
    by true false e f same = let le : turn ≤ a = grind (arith, e) in let gt : b < turn = grind (arith, f) in omega (arith, same, le, gt, low, in_a)
    by false true e f same = let lt : a < turn = grind (arith, e) in let ge : turn ≤ b = grind (arith, f) in omega (arith, same, lt, ge, low, in_b)
    by false false e f same = let lt : a < turn = grind (arith, e) in let gt : b < turn = grind (arith, f) in omega (arith, same, lt, gt, low)

-- ---- of one run

is_overdue : (v : EngineView) (issue now : ℕ) → IsFirstBy now (put_deadline v) (Some issue) → HasNoneOverdue now v → ⊥
is_overdue v issue now first none = false≢true (sym (none issue) ∙ first.0)

has_come : (v : EngineView) (moment issue now : ℕ) → IsNextPut v.puts (Some (moment, issue)) → moment ≤ now → HasNoResend now v → ⊥
has_come v moment issue now next come none = by none.resend none.next none.later
  where
    by : (o : Option (ℕ × ℕ)) → IsNextPut v.puts o → IfSome o (λ (put : ℕ × ℕ). now < put.0) → ⊥
    by None nothing later = no_put v.puts moment issue nothing next
    by (Some put) other later = let same = (same_put v.puts moment issue put.0 put.1 next other).0 in absurd (omega (arith, same, come, later))

-- ---- of all

module _ (engines : List EngineView) (turn now : ℕ) (low : turn < length engines) where
  same_turn : (n m : ℕ) → IsTurnOf engines turn now n → IsTurnOf engines turn now m → n ≡ m
  same_turn n m x y =
      same_distance (length engines) turn n m low (turn_within engines turn now n x) (turn_within engines turn now m y)
      (same_place (from_to (length engines) turn n) (from_to (length engines) turn m) (λ lt. x.has (y.first n lt x.v x.there)) (λ lt. y.has (x.first m lt y.v y.there)))

  same_expire : (n m : ℕ) → IsToExpire engines now n → IsToExpire engines now m → n ≡ m
  same_expire n m x y = same_place n m
      (λ lt. is_overdue x.first.v x.first.issue now x.first.first (y.first.lower n x.first.v lt x.first.there))
      (λ lt. is_overdue y.first.v y.first.issue now y.first.first (x.first.lower m y.first.v lt y.first.there))

  same_resend : (n nm ni m mm mi : ℕ) → IsToResend engines now n nm ni → IsToResend engines now m mm mi → kind.Resend n nm ni ≡ kind.Resend m mm mi
  same_resend n nm ni m mm mi x y =
      let place = same_place n m
      (λ lt. has_come x.first.v nm ni now x.first.next x.first.come (y.first.lower n x.first.v lt x.first.there))
      (λ lt. has_come y.first.v mm mi now y.first.next y.first.come (x.first.lower m y.first.v lt y.first.there)) in
      let run = same_run engines m x.first.v y.first.v (subst (λ (k : ℕ). slice_get engines k ≡ Some x.first.v) place x.first.there) y.first.there in
      let puts = same_put y.first.v.puts nm ni mm mi (subst (λ (v : EngineView). IsNextPut v.puts (Some (nm, ni))) run x.first.next) y.first.next in
      ap (λ (k : ℕ). kind.Resend k nm ni) place ∙ ap (λ (k : ℕ). kind.Resend m k ni) puts.0 ∙ ap (λ (k : ℕ). kind.Resend m mm k) puts.1

  same_wait : (n m : ℕ) → IsToWait engines now n → IsToWait engines now m → n ≡ m
  same_wait n m x y =
      let le = x.next.least y.next.place m y.next.v y.next.there y.next.of_one in
      let ge = y.next.least x.next.place n x.next.v x.next.there x.next.of_one in
      omega (arith, le, ge)

  same_ask : (nr ni mr mi : ℕ) → IsToAsk engines now nr ni → IsToAsk engines now mr mi → kind.Ask nr ni ≡ kind.Ask mr mi
  same_ask nr ni mr mi x y =
      let place = same_place x.first.place y.first.place
      (λ lt. none-some ni (sym (y.first.lower x.first.place x.first.v lt x.first.there) ∙ x.first.least))
      (λ lt. none-some mi (sym (x.first.lower y.first.place y.first.v lt y.first.there) ∙ y.first.least)) in
      let run = same_run engines y.first.place x.first.v y.first.v (subst (λ (k : ℕ). slice_get engines k ≡ Some x.first.v) place x.first.there) y.first.there in
      let number = sym x.first.of_run ∙ ap (λ (v : EngineView). v.history.seen.run) run ∙ y.first.of_run in
      let issue = same_some (sym x.first.least ∙ ap (λ (v : EngineView). asks v.history.seen) run ∙ y.first.least) in
      ap (λ (k : ℕ). kind.Ask k ni) number ∙ ap (λ (k : ℕ). kind.Ask mr k) issue

  one_due : (a b : FleetDue) → IsFleetDue engines turn now a → IsFleetDue engines turn now b → a ≡ b
  one_due (kind.Move n) (kind.Move m) x y = ap (λ (k : ℕ). kind.Move k) (same_turn n m x y)
  one_due (kind.Move n) (kind.Expire m) x y = absurd (x.has (y.idle n x.v x.there))
  one_due (kind.Move n) (kind.Resend m mm mi) x y = absurd (x.has (y.idle n x.v x.there))
  one_due (kind.Move n) (kind.Wait m) x y = absurd (x.has (y.up_to_date.idle n x.v x.there))
  one_due (kind.Move n) (kind.Ask mr mi) x y = absurd (x.has (y.up_to_date.idle n x.v x.there))
  one_due (kind.Expire n) (kind.Move m) x y = absurd (y.has (x.idle m y.v y.there))
  one_due (kind.Expire n) (kind.Expire m) x y = ap (λ (k : ℕ). kind.Expire k) (same_expire n m x y)
  one_due (kind.Expire n) (kind.Resend m mm mi) x y = absurd (is_overdue x.first.v x.first.issue now x.first.first (y.on_time n x.first.v x.first.there))
  one_due (kind.Expire n) (kind.Wait m) x y = absurd (is_overdue x.first.v x.first.issue now x.first.first (y.up_to_date.on_time n x.first.v x.first.there))
  one_due (kind.Expire n) (kind.Ask mr mi) x y = absurd (is_overdue x.first.v x.first.issue now x.first.first (y.up_to_date.on_time n x.first.v x.first.there))
  one_due (kind.Resend n nm ni) (kind.Move m) x y = absurd (y.has (x.idle m y.v y.there))
  one_due (kind.Resend n nm ni) (kind.Expire m) x y = absurd (is_overdue y.first.v y.first.issue now y.first.first (x.on_time m y.first.v y.first.there))
  one_due (kind.Resend n nm ni) (kind.Resend m mm mi) x y = same_resend n nm ni m mm mi x y
  one_due (kind.Resend n nm ni) (kind.Wait m) x y = absurd (has_come x.first.v nm ni now x.first.next x.first.come (y.up_to_date.none n x.first.v x.first.there))
  one_due (kind.Resend n nm ni) (kind.Ask mr mi) x y = absurd (has_come x.first.v nm ni now x.first.next x.first.come (y.up_to_date.none n x.first.v x.first.there))
  one_due (kind.Wait n) (kind.Move m) x y = absurd (y.has (x.up_to_date.idle m y.v y.there))
  one_due (kind.Wait n) (kind.Expire m) x y = absurd (is_overdue y.first.v y.first.issue now y.first.first (x.up_to_date.on_time m y.first.v y.first.there))
  one_due (kind.Wait n) (kind.Resend m mm mi) x y = absurd (has_come y.first.v mm mi now y.first.next y.first.come (x.up_to_date.none m y.first.v y.first.there))
  one_due (kind.Wait n) (kind.Wait m) x y = ap (λ (k : ℕ). kind.Wait k) (same_wait n m x y)
  one_due (kind.Wait n) (kind.Ask mr mi) x y = absurd (none-some x.next.of_one.at (sym (y.nothing_due x.next.place x.next.v x.next.there) ∙ x.next.of_one.due_is))
  one_due (kind.Ask nr ni) (kind.Move m) x y = absurd (y.has (x.up_to_date.idle m y.v y.there))
  one_due (kind.Ask nr ni) (kind.Expire m) x y = absurd (is_overdue y.first.v y.first.issue now y.first.first (x.up_to_date.on_time m y.first.v y.first.there))
  one_due (kind.Ask nr ni) (kind.Resend m mm mi) x y = absurd (has_come y.first.v mm mi now y.first.next y.first.come (x.up_to_date.none m y.first.v y.first.there))
  one_due (kind.Ask nr ni) (kind.Wait m) x y = absurd (none-some y.next.of_one.at (sym (x.nothing_due y.next.place y.next.v y.next.there) ∙ y.next.of_one.due_is))
  one_due (kind.Ask nr ni) (kind.Ask mr mi) x y = same_ask nr ni mr mi x y

  -- what is due is so, and nothing else is
  pub exactly : (a : FleetDue) → IsFleetDue engines turn now a → (b : FleetDue) → (a ≡ b) ↔ IsFleetDue engines turn now b
  exactly a is b = (λ same. subst (λ (d : FleetDue). IsFleetDue engines turn now d) same is, λ other. one_due a b is other)
