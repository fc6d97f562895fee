-- Two neighbouring records of a run that stand apart may be exchanged: what follows rests on what is shown alone.
use Rattle.std.proofs.Common.{◌≡◌, ◌==◌, ◌&&◌, Bool, true, false, List, [], ◌∷◌, Option, Some, None, is_some, refl, ap, sym, ◌∙◌}
use Rattle.std.specs.Prelude.{is_none, not}
use Rattle.run_records.specs.declared.record.Record.{Record}
use Rattle.run_records.specs.declared.record.Record.TheVariants as entry
use Rattle.flow_core_rules.specs.State.{State, Shown, shown}
use Rattle.flow_core_rules.specs.Edits.{Edit}
use Rattle.flow_core_rules.specs.Edits.Edit.{upgrades}
use Rattle.flow_core_rules.specs.Changes.{change, moment_of, is_in_time, outcome, upgrade}
use Rattle.flow_core_rules.specs.Runs.{Next, GoesOn, after, shown_after}
use Rattle.flow_core_rules.specs.Laws.{HasPlacedWrites, IsShownAlone}
use Rattle.flow_core_rules.proofs.PlacedLemmas.{records_shown}
use Rattle.flow_core_rules.proofs.RunLemmas.{some_inner, next_is_one}
use Rattle.flow_core_laws.proofs.Somes.{clash, parts_true}
use Rattle.flow_core_laws.specs.BothOrders.{MayStillCome, ShowTheSame}
use Rattle.flow_core_laws.specs.Exchanged.{NeighboursMayBeExchanged}
use Rattle.flow_core_laws.proofs.RunStates.{IsOfRun, of_run, of_run_next}
use Rattle.flow_core_laws.proofs.Frame.{under, test_of}
use Rattle.flow_core_laws.proofs.Orders.{both_orders}

-- what is shown after a record
shown_next : (s new : State) (r : Record) → HasPlacedWrites s → (x : Next s r new) → (shown new ≡ shown_after (moment_of r) x.edits (shown s)) × HasPlacedWrites new
shown_next s new r placed x =
    let alone : IsShownAlone s r new = records_shown s new r placed x in
    (alone.shown_is ∙ ap (λ (es : List Edit). shown_after (moment_of r) es (shown s)) (some_inner alone.edits x.edits (sym alone.edits_are ∙ x.change_is)), alone.placed)

-- where the same is shown, a run goes on with the same records to what shows the same
shown_along : (rs : List Record) (x y new : State) → HasPlacedWrites x → HasPlacedWrites y → shown x ≡ shown y → GoesOn x rs new → (later : State) × GoesOn y rs later × (shown new ≡ shown later)
shown_along [] x y new px py same g = (y, refl, ap shown (sym g) ∙ same)
shown_along (r ∷ rs) x y new px py same g =
    let n : Next x r g.0 = g.1 in
    let there : State = after (moment_of r) n.edits y in
    let m : Next y r there = record { edits = n.edits; change_is = ap (λ (s : Shown). change s r) (sym same) ∙ n.change_is; new_is = refl } in
    let from_x = shown_next x g.0 r px n in
    let from_y = shown_next y there r py m in
    let rest = shown_along rs g.0 there new from_x.1 from_y.1 (from_x.0 ∙ ap (shown_after (moment_of r) n.edits) same ∙ sym from_y.0) g.2 in
    (rest.0, (there, m, rest.1), rest.2)

open_of : (o : Option Bool) → is_none o ≡ true → is_some o ≡ true → ⊥
open_of None e h = clash false h refl
open_of (Some b) e h = clash false e refl

-- an Upgrade that comes comes while the run goes on
may_come : (s new : State) (r : Record) → Next s r new → MayStillCome s r
may_come s new (entry.Upgrade version moment) x =
    let made : upgrade (shown s).lists version ≡ Some x.edits = under (is_in_time (shown s) moment) (upgrade (shown s).lists version) x.edits x.change_is in
    let test = parts_true ((version == 2) && is_none (outcome (shown s).lists)) (not s.is_upgraded) (test_of ((version == 2) && is_none (outcome (shown s).lists) && not s.is_upgraded) (Some (upgrades ∷ [])) x.edits made) in
    open_of (outcome (shown s).lists) (parts_true (version == 2) (is_none (outcome (shown s).lists)) test.0).1
may_come s new (entry.Begin run moment books bind) x = tt
may_come s new (entry.Walk task moment) x = tt
may_come s new (entry.Send task issue agent moment bytes) x = tt
may_come s new (entry.Reply issue moment status rule text) x = tt
may_come s new (entry.Expire issue moment) x = tt
may_come s new (entry.Ask task issue moment bytes) x = tt
may_come s new (entry.Told issue moment status text) x = tt

pub neighbours_may_be_exchanged : NeighboursMayBeExchanged
neighbours_may_be_exchanged given run records rest s a ab b new one other leads x second goes y tasks moments few apart may =
    let both : ShowTheSame a b one other = both_orders given run records s a b one other leads x y tasks moments few apart (may_come a ab other second) may in
    let k : IsOfRun s = of_run given run records s leads in
    let ka : IsOfRun a = of_run_next s a one k x in
    let kb : IsOfRun b = of_run_next s b other k y in
    let kab : IsOfRun ab = of_run_next a ab other ka second in
    let kba : IsOfRun both.ba = of_run_next b both.ba one kb both.other_first in
    let same : shown ab ≡ shown both.ba = ap shown (next_is_one a ab both.ab other second both.one_first) ∙ both.same in
    let on = shown_along rest ab both.ba new kab.placed kba.placed same goes in
    record { later = on.0; goes_on = (b, y, (both.ba, both.other_first, on.1)); same = on.2 }
