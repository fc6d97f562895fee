-- How many bytes a fleet writes.
use Rattle.std.proofs.Common.{◌≡◌, inl, inr, ℕ, ◌+◌, ◌-◌, Bool, true, false, List, [], ◌∷◌, ◌++◌, refl, sym, ◌∙◌, subst, ap, arith}
use Rattle.std.specs.Prelude.{Option, Some, None, slice_set, ◌==◌, if◌then◌else◌}
use Rattle.std.specs.Option.{option_map_or}
use Rattle.std.proofs.lemmas.Bool.{eq-eqb}
use Rattle.cacao_site.specs.View.{SiteView}
use Rattle.cacao_site.specs.declared.parcel.Parcel.{Parcel}
use Rattle.run_journal.specs.Durable.{header_bytes}
use Rattle.run_records.specs.declared.act.Act.{Act}
use Rattle.run_records.specs.declared.record.Record.{Record}
use Rattle.flow_engine_history.specs.HistoryView.{HistoryView}
use Rattle.flow_engine.specs.EngineView.{EngineView}
use Rattle.slpf_actuator.specs.ActuatorView.{ActuatorView, act_for}
use Rattle.slpf_actuator.specs.declared.error.ActError.{ActError}
use Rattle.slpf_actuator.specs.declared.error.ActError.TheVariants as act_error
use Rattle.flow_world_steps.specs.Appends.{Tries}
use Rattle.flow_world_steps.specs.Appends.Tries.{done, failed as may_be_done, limited}
use Rattle.flow_world_steps.specs.Steps.{ActsOn, DoesNothing, FailsToAct, MayHaveActed, PutsCommand, RepeatsReply, Unsures}
use Rattle.flow_world_steps.specs.Sums.{if_going, total}
use Rattle.flow_world_steps.specs.Worlds.{Cause, IsGoing, Notes, Phase}
use Rattle.flow_world_steps.specs.Written.{act_bytes, record_bytes}
use Rattle.flow_world_steps.proofs.Costs.{sum_part, sum_set}
use Rattle.flow_fleet_steps.specs.Steps.{FleetSteps}
use Rattle.flow_fleet_steps.specs.Steps.FleetSteps.{nothing, and_then}
use Rattle.flow_fleet_steps.specs.Worlds.{FleetWorld, Own, part, set_own}
use Rattle.flow_fleet_steps.proofs.Spending.{fleet_step_going}
use Rattle.flow_fleet_sums.specs.Sums.{FleetWrites, bytes_left, bytes_of, unsure_bytes}
use Rattle.flow_fleet_sums.proofs.Costs.{all_of, at_most}
use Rattle.flow_fleet_sums.proofs.StepKinds.{FilterDid, IsQuiet, Kind, NoRun, OneRun, kind_of}
use Rattle.flow_fleet_sums.proofs.StepKinds.FilterDid.{acted, repeated, failed}
use Rattle.flow_fleet_sums.proofs.StepKinds.Kind.{filter, puts, quiet, tries}

total_more : {T : Type 0} (f : T → ℕ) (xs : List T) (x : T) → total f (xs ++ x ∷ []) ≡ total f xs + f x
total_more f [] x = omega arith
total_more f (y ∷ xs) x = let rest = total_more f xs x in omega (arith, rest)

abbrev header_of : EngineView → ℕ
header_of v = header_bytes v.history.prepared

abbrev header_at : ActuatorView → ℕ
header_at v = header_bytes v.prepared

pub own_here : (at : ℕ) (own : Own) (owns : ℕ → Own) → set_own at own owns at ≡ own
own_here at own owns = ap (λ (b : Bool). if b then own else owns at) (eq-eqb at at refl)

-- ---- nothing is unsure while a fleet goes on

pub record IsSure (w : FleetWorld) : Type 0 where
  pub own : (k : ℕ) → (w.own k).unsure ≡ None
  pub act : w.notes.unsure_act ≡ None

sure_own : (owns : ℕ → Own) (at : ℕ) (own : Own) → own.unsure ≡ (owns at).unsure → ((k : ℕ) → (owns k).unsure ≡ None) → (k : ℕ) → (set_own at own owns k).unsure ≡ None
sure_own owns at own same was k = by (k == at)
  where
    by : (b : Bool) → (if b then own else owns k).unsure ≡ None
    by true = same ∙ was at
    by false = was k

module _ (old new : FleetWorld) (at : ℕ) (v w : EngineView) (own : Own) (is : OneRun old new at v w own) (was : IsSure old) where
  still_sure : own.unsure ≡ (old.own at).unsure → new.notes.unsure_act ≡ old.notes.unsure_act → IsSure new
  still_sure same act = record {
    own = λ k. subst (λ (f : ℕ → Own). (f k).unsure ≡ None) (sym is.owns) (sure_own old.own at own same was.own k);
    act = act ∙ was.act;
  }

  tried_sure : (IsNext : Record → Type 0) → Tries IsNext (part at v (old.own at) old) (part at w own new) → IsGoing new.phase → IsSure new
  tried_sure IsNext (done it) going = still_sure (ap (λ (n : Notes). n.unsure) it.notes) (ap (λ (n : Notes). n.unsure_act) it.notes)
  tried_sure IsNext (may_be_done it) going = absurd (subst IsGoing it.phase going)
  tried_sure IsNext (limited what it) going = absurd (subst IsGoing it.phase going)

filter_sure : (old new : FleetWorld) (v : EngineView) → NoRun old new v → FilterDid (part 0 v (old.own 0) old) (part 0 v (old.own 0) new) → IsSure old → IsGoing new.phase → IsSure new
filter_sure old new v is (acted beat parcel f g did) was going = record { own = λ k. subst (λ (o : ℕ → Own). (o k).unsure ≡ None) (sym is.owns) (was.own k); act = ap (λ (n : Notes). n.unsure_act) did.notes ∙ was.act }
filter_sure old new v is (repeated beat parcel f g did) was going =
    record { own = λ k. subst (λ (o : ℕ → Own). (o k).unsure ≡ None) (sym is.owns) (was.own k); act = ap (λ (n : Notes). n.unsure_act) did.ignores.notes ∙ was.act }
filter_sure old new v is (failed beat parcel f g error cause did) was going = absurd (subst IsGoing did.phase going)

kind_sure : (old new : FleetWorld) → Kind old new → IsSure old → IsGoing new.phase → IsSure new
kind_sure old new (tries at v w own IsNext is try) was going = tried_sure old new at v w own is was IsNext try going
kind_sure old new (puts at issue v w own is put) was going = still_sure old new at v w own is was (ap (λ (n : Notes). n.unsure) put.notes) (ap (λ (n : Notes). n.unsure_act) put.notes)
kind_sure old new (filter v is did) was going = filter_sure old new v is did was going
kind_sure old new (quiet is) was going = record { own = λ k. subst (λ (o : ℕ → Own). (o k).unsure ≡ None) (sym is.sides.own) (was.own k); act = is.unsure ∙ was.act }

pub steps_sure : (a b : FleetWorld) → FleetSteps a b → IsSure a → IsGoing b.phase → IsSure b
steps_sure a b nothing was going = was
steps_sure a b (and_then {mid} steps step) was going = kind_sure mid b (kind_of mid b step) (steps_sure a mid steps was (fleet_step_going mid b step)) going

-- ---- one run

site_written : (old new : SiteView) → new ≡ old → new.disk.written ≡ old.disk.written
site_written old new e = ap (λ (s : SiteView). s.disk.written) e

module _ (old new : FleetWorld) (at : ℕ) (v w : EngineView) (own : Own) (is : OneRun old new at v w own) (going : IsGoing old.phase) where
  headers : total header_of new.engines + header_of v ≡ total header_of old.engines + header_of w
  headers = ap (λ (n : ℕ). n + header_of v) (ap (λ (l : List EngineView). total header_of l) is.engines) ∙ sum_set header_of old.engines at v w is.there

  bytes : total bytes_of new.engines + bytes_of v ≡ total bytes_of old.engines + bytes_of w
  bytes = ap (λ (n : ℕ). n + bytes_of v) (ap (λ (l : List EngineView). total bytes_of l) is.engines) ∙ sum_set bytes_of old.engines at v w is.there

  -- nothing was written, and the records are as they were
  unwritten : new.site.disk.written ≡ old.site.disk.written → header_of w ≡ header_of v → bytes_of w ≡ bytes_of v → new.filters ≡ old.filters → new.notes.acted ≡ old.notes.acted → FleetWrites old new
  unwritten written header record_ filters acts =
      let files = ap (λ (l : List ActuatorView). total header_at l) filters in
      let more = ap (λ (l : List (ℕ × Act)). total act_bytes l) acts in
      let most = at_most new.phase (bytes_left new) in
      let before = all_of old.phase (bytes_left old) going in
      let h = headers in
      let b = bytes in
      record { written = omega (arith, h, b, written, header, record_, files, more, most, before) }

  tried_writes : (IsNext : Record → Type 0) → Tries IsNext (part at v (old.own at) old) (part at w own new) → FleetWrites old new
  tried_writes IsNext (done it) =
      let offers = it.appends.adds.offers in
      let next = offers.comes.next in
      let prepared : header_of w ≡ 0 = ap (λ (h : HistoryView). header_bytes h.prepared) it.appends.adds.view in
      let record_ : bytes_of w ≡ bytes_of v + record_bytes next = ap (λ (h : HistoryView). total record_bytes h.records) it.appends.adds.view ∙ total_more record_bytes v.history.records next in
      let files = ap (λ (l : List ActuatorView). total header_at l) it.filters in
      let acts = ap (λ (n : Notes). total act_bytes n.acted) it.notes in
      let most = at_most new.phase (bytes_left new) in
      let before = all_of old.phase (bytes_left old) going in
      let h = headers in
      let b = bytes in
      let offered = offers.written in
      record { written = omega (arith, h, b, prepared, record_, files, acts, most, before, offered) }
  tried_writes IsNext (may_be_done it) =
      let offers = it.refuses.0.0 in
      let next = offers.comes.next in
      let gone : if_going new.phase (bytes_left new) ≡ 0 = ap (λ (p : Phase). if_going p (bytes_left new)) it.phase in
      let record_ : bytes_of w ≡ bytes_of v = ap (λ (h : HistoryView). total record_bytes h.records) it.refuses.0.1 in
      let acts = ap (λ (n : Notes). total act_bytes n.acted) it.notes in
      let owned : (new.own new.place).unsure ≡ Some next =
      ap (λ (k : ℕ). (new.own k).unsure) is.place_is ∙ ap (λ (o : ℕ → Own). (o at).unsure) is.owns ∙ ap (λ (o : Own). o.unsure) (own_here at own old.own) ∙ ap (λ (n : Notes). n.unsure) it.notes in
      let unsure : option_map_or record_bytes (new.own new.place).unsure 0 ≡ record_bytes next = ap (λ (o : Option Record). option_map_or record_bytes o 0) owned in
      let before = all_of old.phase (bytes_left old) going in
      let part_of = sum_part header_of old.engines at v is.there in
      let b = bytes in
      let offered = offers.written in
      record { written = omega (arith, b, gone, record_, acts, unsure, before, part_of, offered) }
  tried_writes IsNext (limited what it) =
      unwritten (site_written (part at v (old.own at) old).site (part at w own new).site it.refuses.0.2) (ap (λ (h : HistoryView). header_bytes h.prepared) it.refuses.0.1) (ap (λ (h : HistoryView). total record_bytes h.records) it.refuses.0.1) it.filters
      (ap (λ (n : Notes). n.acted) it.notes)

  put_writes : (issue : ℕ) → PutsCommand issue (part at v (old.own at) old) (part at w own new) → FleetWrites old new
  put_writes issue it =
      unwritten it.sends.put.disk.disk.written (ap (λ (x : EngineView). header_bytes x.history.prepared) it.sends.view) (ap (λ (x : EngineView). total record_bytes x.history.records) it.sends.view) it.filters (ap (λ (n : Notes). n.acted) it.notes)

-- ---- the filters

module _ (old new : FleetWorld) (v : EngineView) (is : NoRun old new v) (going : IsGoing old.phase) where
  same_headers : total header_of new.engines ≡ total header_of old.engines
  same_headers = ap (λ (l : List EngineView). total header_of l) is.engines

  same_bytes : total bytes_of new.engines ≡ total bytes_of old.engines
  same_bytes = ap (λ (l : List EngineView). total bytes_of l) is.engines

  acts_write : (beat : ℕ) (parcel : Parcel) (f g : ActuatorView) → ActsOn beat parcel f g (part 0 v (old.own 0) old) (part 0 v (old.own 0) new) → FleetWrites old new
  acts_write beat parcel f g it =
      let e : ℕ × Act = (parcel.agent, act_for f.acts parcel old.site.clock.now) in
      let prepared : header_at g ≡ 0 = ap header_at it.acts.view in
      let files : total header_at new.filters ≡ total header_at (slice_set old.filters (parcel.agent - 1) g) = ap (λ (l : List ActuatorView). total header_at l) it.filters in
      let sum = sum_set header_at old.filters (parcel.agent - 1) f g it.holds_command.there in
      let acts : total act_bytes new.notes.acted ≡ total act_bytes (old.notes.acted ++ e ∷ []) = ap (λ (n : Notes). total act_bytes n.acted) it.notes in
      let more = total_more act_bytes old.notes.acted e in
      let most = at_most new.phase (bytes_left new) in
      let before = all_of old.phase (bytes_left old) going in
      let h = same_headers in
      let b = same_bytes in
      let added = it.acts.offers.adds.written in
      let put = it.acts.puts.disk.disk.written in
      record { written = omega (arith, h, b, prepared, files, sum, acts, more, most, before, added, put) }

  repeats_write : (beat : ℕ) (parcel : Parcel) (f g : ActuatorView) → RepeatsReply beat parcel f g (part 0 v (old.own 0) old) (part 0 v (old.own 0) new) → FleetWrites old new
  repeats_write beat parcel f g it =
      let files = ap (λ (l : List ActuatorView). total header_at l) it.ignores.filters in
      let acts = ap (λ (n : Notes). total act_bytes n.acted) it.ignores.notes in
      let most = at_most new.phase (bytes_left new) in
      let before = all_of old.phase (bytes_left old) going in
      let h = same_headers in
      let b = same_bytes in
      let put = it.repeats.puts.disk.disk.written in
      record { written = omega (arith, h, b, files, acts, most, before, put) }

  fails_write : (beat : ℕ) (parcel : Parcel) (f g : ActuatorView) (error : ActError) (cause : Cause) → FailsToAct beat parcel f g error cause (part 0 v (old.own 0) old) (part 0 v (old.own 0) new) → FleetWrites old new
  fails_write beat parcel f g error cause it = by error it.notes
    where
      gone : if_going new.phase (bytes_left new) ≡ 0
      gone = ap (λ (p : Phase). if_going p (bytes_left new)) it.phase

      none : DoesNothing (part 0 v (old.own 0) old) (part 0 v (old.own 0) new) → FleetWrites old new
      none same =
          let acts = ap (λ (n : Notes). total act_bytes n.acted) same.notes in
          let written = ap (λ (s : SiteView). s.disk.written) same.site in
          let before = all_of old.phase (bytes_left old) going in
          let b = same_bytes in
          record { written = omega (arith, gone, acts, written, before, b) }

      may : MayHaveActed parcel f (part 0 v (old.own 0) old) (part 0 v (old.own 0) new) → FleetWrites old new
      may it_may =
          let e : ℕ × Act = (parcel.agent, act_for f.acts parcel old.site.clock.now) in
          let acts = ap (λ (n : Notes). total act_bytes n.acted) it_may.notes in
          let unsure : option_map_or act_bytes new.notes.unsure_act 0 ≡ act_bytes e = ap (λ (n : Notes). option_map_or act_bytes n.unsure_act 0) it_may.notes in
          let part_of = sum_part header_at old.filters (parcel.agent - 1) f it.holds_command.there in
          let before = all_of old.phase (bytes_left old) going in
          let b = same_bytes in
          let added = it_may.offers.adds.written in
          record { written = omega (arith, gone, acts, unsure, part_of, before, b, added) }

      by : (error : ActError) → Unsures error parcel f (part 0 v (old.own 0) old) (part 0 v (old.own 0) new) → FleetWrites old new
      by act_error.Disk is_so = may is_so
      by act_error.Memory is_so = elim is_so [ inl same ↦ none same | inr acted_so ↦ may acted_so ]
      by (act_error.Damaged place) is_so = none is_so
      by (act_error.Full length_) is_so = none is_so
      by act_error.Broken is_so = none is_so

  filter_writes : FilterDid (part 0 v (old.own 0) old) (part 0 v (old.own 0) new) → FleetWrites old new
  filter_writes (acted beat parcel f g it) = acts_write beat parcel f g it
  filter_writes (repeated beat parcel f g it) = repeats_write beat parcel f g it
  filter_writes (failed beat parcel f g error cause it) = fails_write beat parcel f g error cause it

quiet_writes : (old new : FleetWorld) → IsQuiet old new → IsGoing old.phase → FleetWrites old new
quiet_writes old new is going =
    let engines = ap (λ (l : List EngineView). total header_of l) is.sides.engines in
    let bytes_ = ap (λ (l : List EngineView). total bytes_of l) is.sides.engines in
    let files = ap (λ (l : List ActuatorView). total header_at l) is.sides.filters in
    let acts = ap (λ (l : List (ℕ × Act)). total act_bytes l) is.acted in
    let most = at_most new.phase (bytes_left new) in
    let before = all_of old.phase (bytes_left old) going in
    record { written = omega (arith, engines, bytes_, files, acts, most, before, is.written) }

kind_writes : (old new : FleetWorld) → Kind old new → IsGoing old.phase → FleetWrites old new
kind_writes old new (tries at v w own IsNext is try) going = tried_writes old new at v w own is going IsNext try
kind_writes old new (puts at issue v w own is put) going = put_writes old new at v w own is going issue put
kind_writes old new (filter v is did) going = filter_writes old new v is going did
kind_writes old new (quiet is) going = quiet_writes old new is going

no_unsure : (w : FleetWorld) → IsSure w → unsure_bytes w ≡ 0
no_unsure w is =
    let own = ap (λ (o : Option Record). option_map_or record_bytes o 0) (is.own w.place) in
    let act = ap (λ (o : Option (ℕ × Act)). option_map_or act_bytes o 0) is.act in
    omega (arith, own, act)

pub fleet_steps_write : (a b : FleetWorld) → IsSure a → FleetSteps a b → FleetWrites a b
fleet_steps_write a b sure nothing = record { written = omega arith }
fleet_steps_write a b sure (and_then {mid} steps step) =
    let going = fleet_step_going mid b step in
    let p = (fleet_steps_write a mid sure steps).written in
    let q = (kind_writes mid b (kind_of mid b step) going).written in
    let none = no_unsure mid (steps_sure a mid steps sure going) in
    record { written = omega (arith, p, q, none) }
