-- What the engine's end keeps, over all that happens.
use Rattle.std.proofs.Common.{◌≡◌, ℕ, ◌≤◌, Bool, true, false, List, [], ◌∷◌, sym, ◌∙◌, subst, ap, arith}
use Rattle.std.specs.Prelude.{nat_lt, if◌then◌else◌, Contains, Option, Some, None, option_map, slice_get}
use Rattle.std.proofs.lemmas.Option.{none-some}
use Rattle.cacao_site.specs.View.{SiteView}
use Rattle.cacao_site.specs.declared.parcel.Parcel.{Parcel}
use Rattle.run_records.specs.Ranges.{last_moment}
use Rattle.run_records.specs.declared.record.Record.{Record}
use Rattle.run_records.specs.declared.record.Record.TheVariants as entry
use Rattle.flow_core.specs.declared.flow_errors.LimitKind.TheVariants as limit
use Rattle.flow_core_rules.specs.Moves.{record_of}
use Rattle.flow_core_rules.specs.State.{Shown}
use Rattle.flow_core_rules.specs.declared.moves.Move.{Move}
use Rattle.flow_core_rules.specs.declared.moves.Move.TheVariants as move
use Rattle.flow_laws.specs.Journals.{run_of}
use Rattle.flow_engine_history.specs.HistoryCalls.{Offers}
use Rattle.flow_engine.specs.EngineView.{EngineView}
use Rattle.slpf_actuator.specs.ActuatorView.{ActuatorView}
use Rattle.flow_world_steps.specs.Appends.{Tries}
use Rattle.flow_world_steps.specs.Appends.Tries.{done, failed, limited}
use Rattle.flow_world_steps.specs.Steps.{Step, OnlyPhase, GoesTowards, after_reach}
use Rattle.flow_world_steps.specs.Steps.Step.{opens_clock, finds_run_used, asks_clock, finds_late, begins, moves, upgrades, tells, expires, says, fails_to_say}
use Rattle.flow_world_steps.specs.Steps.Step.{puts_first, resends, takes, finds_none, fails_to_take, drops, replies, ignores_reply, acts_on, repeats_reply, fails_to_act, wants_memory_now}
use Rattle.flow_world_steps.specs.Steps.Steps.{nothing, and_then}
use Rattle.flow_world_steps.specs.Worlds.{World, Phase, Cause, opened, rests, looked, owes, holds, waits, refused, past}
use Rattle.flow_world_steps.proofs.Agreement.{step_run}
use Rattle.oc2_wire_laws.specs.EngineBeats.{ShrunkIsKept}
use Rattle.oc2_wire_laws.specs.Since.{taken_before, takes_of}
use Rattle.oc2_wire_steps.specs.Kept.{BeginsKept, StepsKeepEngine}
use Rattle.oc2_wire_laws.proofs.Taken.{in_before}
use Rattle.oc2_wire_steps.proofs.Openings.{opening_kept_to}
use Rattle.oc2_wire_steps.proofs.Records.{of_none, of_reply}
use Rattle.oc2_wire_steps.proofs.Sites.{KeptTo, taken_since, command_kept, failed_quiet, line_kept, none_quiet, offers_kept, quiet, reaches_quiet, takes_quiet}

-- ---- no filter stands here

abbrev IsAlone : World → Type 0
IsAlone w = w.filters ≡ []

no_filter : (A : Type 0) (w : World) (k : ℕ) (v : ActuatorView) → IsAlone w → slice_get w.filters k ≡ Some v → A
no_filter A w k v alone there = absurd (none-some v (sym (ap (λ (l : List ActuatorView). slice_get l k) alone) ∙ there))

tried_alone : (old new : World) (IsNext : Record → Type 0) → Tries IsNext old new → IsAlone old → IsAlone new
tried_alone old new IsNext (done is) alone = is.filters ∙ alone
tried_alone old new IsNext (failed is) alone = is.filters ∙ alone
tried_alone old new IsNext (limited what is) alone = is.filters ∙ alone

step_alone : (old new : World) → Step old new → IsAlone old → IsAlone new
step_alone old new (opens_clock answer is) alone = is.goes.sides.filters ∙ alone
step_alone old new (finds_run_used agent is) alone = is.only.sides.filters ∙ alone
step_alone old new (asks_clock moment answer is) alone = is.goes.sides.filters ∙ alone
step_alone old new (finds_late moment is) alone = is.only.sides.filters ∙ alone
step_alone old new (begins is) alone = tried_alone old new _ is.tries alone
step_alone old new (moves is) alone = tried_alone old new _ is.tries alone
step_alone old new (upgrades issue told is) alone = tried_alone old new _ is.tries alone
step_alone old new (tells issue told is) alone = tried_alone old new _ is.tries alone
step_alone old new (expires issue is) alone = tried_alone old new _ is.tries alone
step_alone old new (says bytes is) alone = is.speaks.sides.filters ∙ alone
step_alone old new (fails_to_say bytes is) alone = is.speaks.sides.filters ∙ alone
step_alone old new (puts_first issue is) alone = is.puts.filters ∙ alone
step_alone old new (resends issue is) alone = is.puts.filters ∙ alone
step_alone old new (takes parcel is) alone = is.sides.filters ∙ alone
step_alone old new (finds_none is) alone = is.sides.filters ∙ alone
step_alone old new (fails_to_take is) alone = is.sides.filters ∙ alone
step_alone old new (drops beat parcel is) alone = is.ignores.filters ∙ alone
step_alone old new (replies beat parcel is) alone = tried_alone old new _ is.tries alone
step_alone old new (ignores_reply beat parcel is) alone = is.ignores.filters ∙ alone
step_alone old new (acts_on beat parcel v w is) alone = no_filter _ old _ v alone is.holds_command.there
step_alone old new (repeats_reply beat parcel v w is) alone = is.ignores.filters ∙ alone
step_alone old new (fails_to_act beat parcel v w error cause is) alone = no_filter _ old _ v alone is.holds_command.there
step_alone old new (wants_memory_now is) alone = is.only.sides.filters ∙ alone

-- ---- phases

abbrev HandIsEmpty : Phase → Type 0
HandIsEmpty p = (beat : ℕ) (parcel : Parcel) → p ≡ holds beat parcel → ⊥

empty_rests : (p : Phase) → p ≡ rests → HandIsEmpty p
empty_rests p e beat parcel h = let f : rests ≡ holds beat parcel = sym e ∙ h in cc

empty_opened : (p : Phase) → p ≡ opened → HandIsEmpty p
empty_opened p e beat parcel h = let f : opened ≡ holds beat parcel = sym e ∙ h in cc

empty_looked : (p : Phase) → p ≡ looked → HandIsEmpty p
empty_looked p e beat parcel h = let f : looked ≡ holds beat parcel = sym e ∙ h in cc

empty_owes : (p : Phase) → p ≡ owes → HandIsEmpty p
empty_owes p e beat parcel h = let f : owes ≡ holds beat parcel = sym e ∙ h in cc

empty_refused : (p : Phase) (cause : Cause) (lacks : Bool) → p ≡ refused cause lacks → HandIsEmpty p
empty_refused p cause lacks e beat parcel h = let f : refused cause lacks ≡ holds beat parcel = sym e ∙ h in cc

empty_reached : (p : Phase) (moment answer : ℕ) → p ≡ after_reach moment answer → HandIsEmpty p
empty_reached p moment answer e = by (nat_lt last_moment answer) (nat_lt answer moment) e
  where
    by : (a b : Bool) → p ≡ (if a then refused (past limit.Moment) false else if b then waits moment else rests) → HandIsEmpty p
    by true b e beat parcel h = let f = sym e ∙ h in cc
    by false true e beat parcel h = let f = sym e ∙ h in cc
    by false false e beat parcel h = let f = sym e ∙ h in cc

-- a parcel in hand was taken in the session, by now
abbrev IsInHand : SiteView → World → Type 0
IsInHand start w = (beat : ℕ) (parcel : Parcel) → w.phase ≡ holds beat parcel → (beat ≤ w.site.disk.beat) × Contains (taken_since start w.site) (beat, parcel)

-- what the site keeps, and what is in hand
record Holds (start : SiteView) (run : ℕ) (w : World) : Type 0 where
  pub site : KeptTo start run w.site
  pub in_hand : IsInHand start w

kept_with : (start : SiteView) (run : ℕ) (new : World) → KeptTo start run new.site → HandIsEmpty new.phase → Holds start run new
kept_with start run new kept empty = record { site = kept; in_hand = λ beat parcel h. absurd (empty beat parcel h) }

same_site : (start : SiteView) (run : ℕ) (old new : World) → new.site ≡ old.site → HandIsEmpty new.phase → Holds start run old → Holds start run new
same_site start run old new same empty kept = kept_with start run new (subst (λ (s : SiteView). KeptTo start run s) (sym same) kept.site) empty

only_refuses : (start : SiteView) (run : ℕ) (old new : World) (cause : Cause) (lacks : Bool) → OnlyPhase old new (refused cause lacks) → Holds start run old → Holds start run new
only_refuses start run old new cause lacks only = same_site start run old new only.site (empty_refused new.phase cause lacks only.phase)

goes_towards : (start : SiteView) (run : ℕ) (old new : World) (moment answer : ℕ) → GoesTowards moment answer old new → Holds start run old → Holds start run new
goes_towards start run old new moment answer goes kept =
    kept_with start run new (reaches_quiet start run old.site new.site moment answer goes.sound goes.reaches kept.site) (empty_reached new.phase moment answer goes.phase)

-- ---- records

tries_kept : (start : SiteView) (run : ℕ) (old new : World) (IsNext : Record → Type 0) → (Offers old.engine.history IsNext old.site new.site → KeptTo start run new.site)
    → Tries IsNext old new → Holds start run old → Holds start run new
tries_kept start run old new IsNext offered (done is) kept = kept_with start run new (offered is.appends.adds.offers) (empty_owes new.phase is.phase)
tries_kept start run old new IsNext offered (failed is) kept = kept_with start run new (offered is.refuses.0.0) (empty_refused new.phase _ false is.phase)
tries_kept start run old new IsNext offered (limited what is) kept = same_site start run old new is.refuses.0.2 (empty_refused new.phase _ false is.phase) kept

same_some : {A : Type 0} {x y : A} → ◌≡◌ {A = Option A} (Some x) (Some y) → x ≡ y
same_some e = cc

no_option : {A : Type 0} (o : Option A) (f : A → Record) (r : Record) → ((x : A) → f x ≡ r → ⊥) → option_map f o ≡ Some r → ⊥
no_option None f r not e = none-some r e
no_option (Some x) f r not e = not x (same_some e)

-- the record of a move is no Reply
move_no_reply : (seen : Shown) (now : ℕ) (m : Move) (next : Record) → record_of seen now m ≡ Some next → (issue moment status rule : ℕ) (text : List ℕ)
    → next ≡ entry.Reply issue moment status rule text → ⊥
move_no_reply seen now (move.Walk t) next is issue moment status rule text e = let f : entry.Walk t now ≡ entry.Reply issue moment status rule text = same_some (is ∙ ap Some e) in cc
move_no_reply seen now (move.Send t) next is issue moment status rule text e = no_option _ _ (entry.Reply issue moment status rule text) (λ x f. cc) (is ∙ ap Some e)
move_no_reply seen now (move.Ask t) next is issue moment status rule text e = no_option _ _ (entry.Reply issue moment status rule text) (λ x f. cc) (is ∙ ap Some e)
move_no_reply seen now move.Upgrade next is issue moment status rule text e = let f : entry.Upgrade 2 now ≡ entry.Reply issue moment status rule text = same_some (is ∙ ap Some e) in cc

first_none : (v : EngineView) (run : ℕ) (next : Record) → (v.history.records ≡ [] → ⊥) → v.history.records ≡ [] → run_of (next ∷ []) ≡ Some run
first_none v run next some none = absurd (some none)

step_kept : (start : SiteView) (run : ℕ) (old new : World) → old.engine.history.seen.run ≡ run → IsAlone old → Step old new → Holds start run old → Holds start run new
step_kept start run old new of_run alone (opens_clock answer is) kept = goes_towards start run old new _ answer is.goes kept
step_kept start run old new of_run alone (finds_run_used agent is) kept = only_refuses start run old new _ false is.only kept
step_kept start run old new of_run alone (asks_clock moment answer is) kept = goes_towards start run old new moment answer is.goes kept
step_kept start run old new of_run alone (finds_late moment is) kept = only_refuses start run old new _ false is.only kept
step_kept start run old new of_run alone (begins is) kept = tries_kept start run old new _ (λ offers.
    offers_kept start run old.engine _ old.site new.site is.sound is.whole of_run offers
    (λ none. ap (λ (r : Record). run_of (r ∷ [])) offers.comes.is.is ∙ ap Some of_run)
    (λ at late. of_none _ _ offers.comes.next (λ issue moment status rule text e. let f = sym offers.comes.is.is ∙ e in cc)) kept.site) is.tries kept
step_kept start run old new of_run alone (moves is) kept = tries_kept start run old new _ (λ offers.
    let up = is.has_looked.up in
    offers_kept start run old.engine _ old.site new.site is.has_looked.sound up.has_file of_run offers (first_none old.engine run offers.comes.next up.begun)
    (λ at late. of_none _ _ offers.comes.next (λ issue moment status rule text e. move_no_reply old.engine.history.seen old.site.clock.now offers.comes.is.move offers.comes.next offers.comes.is.is issue moment status rule text e)) kept.site) is.tries kept
step_kept start run old new of_run alone (upgrades issue told is) kept = tries_kept start run old new _ (λ offers.
    let at = is.to_be_told.idle.has_looked in
    offers_kept start run old.engine _ old.site new.site at.sound at.up.has_file of_run offers (first_none old.engine run offers.comes.next at.up.begun)
    (λ at late. of_none _ _ offers.comes.next (λ i moment status rule text e. let f = sym offers.comes.is ∙ e in cc)) kept.site) is.tries kept
step_kept start run old new of_run alone (tells issue told is) kept = tries_kept start run old new _ (λ offers.
    let at = is.to_be_told.idle.has_looked in
    offers_kept start run old.engine _ old.site new.site at.sound at.up.has_file of_run offers (first_none old.engine run offers.comes.next at.up.begun)
    (λ at late. of_none _ _ offers.comes.next (λ i moment status rule text e. let f = sym offers.comes.is ∙ e in cc)) kept.site) is.tries kept
step_kept start run old new of_run alone (expires issue is) kept = tries_kept start run old new _ (λ offers.
    let at = is.overdue.untold.idle.has_looked in
    offers_kept start run old.engine _ old.site new.site at.sound at.up.has_file of_run offers (first_none old.engine run offers.comes.next at.up.begun)
    (λ at late. of_none _ _ offers.comes.next (λ i moment status rule text e. let f = sym offers.comes.is ∙ e in cc)) kept.site) is.tries kept
step_kept start run old new of_run alone (says bytes is) kept =
    kept_with start run new (line_kept start run old.engine is.speaks.line.n bytes old.site new.site is.speaks.sound is.speaks.up.has_file is.speaks.line.line is.speaks.only is.said kept.site)
    (empty_rests new.phase is.phase)
step_kept start run old new of_run alone (fails_to_say bytes is) kept =
    kept_with start run new (quiet start run old.site new.site is.speaks.sound is.speaks.only.disk is.speaks.only.puts is.unsaid is.speaks.only.taken kept.site)
    (empty_refused new.phase _ true is.phase)
step_kept start run old new of_run alone (puts_first issue is) kept =
    kept_with start run new (command_kept start run old.engine new.engine issue old.site.clock.now old.site new.site is.sound is.up is.puts.sends kept.site) (empty_rests new.phase is.puts.phase)
step_kept start run old new of_run alone (resends issue is) kept =
    let at = is.due.on_time.untold.idle.has_looked in
    kept_with start run new (command_kept start run old.engine new.engine issue old.site.clock.now old.site new.site at.sound at.up is.puts.sends kept.site) (empty_rests new.phase is.puts.phase)
step_kept start run old new of_run alone (takes parcel is) kept =
    let now = takes_quiet start run old.site new.site parcel is.turn.sound is.only is.some kept.site in
    record {
      site = now.0;
      in_hand = λ beat other h. same_hand beat other (sym is.phase ∙ h) now.1;
    }
  where
    same_hand : (beat : ℕ) (other : Parcel) → holds new.site.disk.beat parcel ≡ holds beat other → Contains (taken_since start new.site) (new.site.disk.beat, parcel)
        → (beat ≤ new.site.disk.beat) × Contains (taken_since start new.site) (beat, other)
    same_hand beat other e has =
        let at : new.site.disk.beat ≡ beat = cc in
        let same : parcel ≡ other = cc in
        (omega (arith, at), subst (λ (n : ℕ). Contains (taken_since start new.site) (n, other)) at (subst (λ (p : Parcel). Contains (taken_since start new.site) (new.site.disk.beat, p)) same has))
step_kept start run old new of_run alone (finds_none is) kept =
    kept_with start run new (none_quiet start run old.site new.site is.turn.sound is.only is.none kept.site) (empty_looked new.phase is.phase)
step_kept start run old new of_run alone (fails_to_take is) kept =
    kept_with start run new (failed_quiet start run old.site new.site is.turn.sound is.only is.link kept.site) (empty_refused new.phase _ false is.phase)
step_kept start run old new of_run alone (drops beat parcel is) kept = same_site start run old new is.site (empty_rests new.phase is.ignores.phase) kept
step_kept start run old new of_run alone (replies beat parcel is) kept = tries_kept start run old new _ (λ offers.
    offers_kept start run old.engine _ old.site new.site is.sound is.up.has_file of_run offers (first_none old.engine run offers.comes.next is.up.begun)
    (λ at late.
    let hand = kept.in_hand beat parcel is.holds_reply.phase in
    of_reply (taken_before (takes_of start) old.site at) old.engine old.site parcel old.site.clock.now offers.comes.next is.up
    (in_before (taken_since start old.site) at beat parcel hand.1 (omega (arith, hand.0, late))) is.holds_reply.addressed offers.comes.is)
    kept.site) is.tries kept
step_kept start run old new of_run alone (ignores_reply beat parcel is) kept = same_site start run old new is.site (empty_rests new.phase is.ignores.phase) kept
step_kept start run old new of_run alone (acts_on beat parcel v w is) kept = no_filter _ old _ v alone is.holds_command.there
step_kept start run old new of_run alone (repeats_reply beat parcel v w is) kept = no_filter _ old _ v alone is.holds_command.there
step_kept start run old new of_run alone (fails_to_act beat parcel v w error cause is) kept = no_filter _ old _ v alone is.holds_command.there
step_kept start run old new of_run alone (wants_memory_now is) kept = only_refuses start run old new _ _ is.only kept

-- ---- all

pub steps_keep_engine : StepsKeepEngine
steps_keep_engine start run a b kept nothing = kept
steps_keep_engine start run a b kept (and_then {mid} steps step) =
    let so_far = steps_keep_engine start run a mid kept steps in
    let was : Holds start run mid = record {
      site = record { kept = so_far.kept; unused = so_far.unused; more = so_far.more };
      in_hand = so_far.in_hand;
    } in
    let now = step_kept start run mid b so_far.of_run so_far.alone step was in
    record {
      kept = now.site.kept;
      unused = now.site.unused;
      more = now.site.more;
      of_run = step_run mid b step ∙ so_far.of_run;
      alone = step_alone mid b step so_far.alone;
      in_hand = now.in_hand;
    }

-- ---- the beginning

pub begins_kept : ShrunkIsKept → BeginsKept
begins_kept shrunk start run w sound is from =
    let site : KeptTo start run w.site = opening_kept_to shrunk start w.site run sound is from.opens in
    record {
      kept = site.kept;
      unused = site.unused;
      more = site.more;
      of_run = from.of_run;
      alone = from.alone;
      in_hand = λ beat parcel h. absurd (empty_opened w.phase from.phase beat parcel h);
    }
