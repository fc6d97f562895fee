-- The lines of a session.
use Rattle.std.proofs.Common.{◌≡◌, inl, inr, ℕ, zero, suc, ◌+◌, ◌<◌, Bool, true, false, List, [], ◌∷◌, ◌++◌, length, take, refl, sym, ◌∙◌, subst, ap, arith}
use Rattle.std.specs.Prelude.{Option, Some, slice_get, nat_lt, if◌then◌else◌}
use Rattle.std.proofs.lemmas.List.{append-nil, length-append, take-append-le}
use Rattle.cacao_site.specs.LinkCalls.{Gains, GainsAll}
use Rattle.cacao_site.specs.View.{SiteView, LinkView}
use Rattle.cacao_site.specs.declared.parcel.Parcel.{Parcel}
use Rattle.run_records.specs.Ranges.{last_moment}
use Rattle.run_records.specs.declared.record.Record.{Record}
use Rattle.flow_engine.specs.LimitKind.TheVariants as limit
use Rattle.flow_core_rules.specs.Givens.{Given}
use Rattle.flow_laws.proofs.Basics.{get_more}
use Rattle.flow_engine.specs.HistoryView.{HistoryView}
use Rattle.flow_engine.specs.Histories.{IsLineAt, IsShownBefore}
use Rattle.flow_engine.specs.EngineView.{EngineView}
use Rattle.flow_engine.specs.OpenIssues.{OpenIssues}
use Rattle.slpf_actuator.specs.ActuatorCalls.{MayHaveDone}
use Rattle.slpf_actuator.specs.ActuatorView.{ActuatorView}
use Rattle.slpf_actuator.specs.declared.error.ActError.{ActError}
use Rattle.slpf_actuator.specs.declared.error.ActError.TheVariants as act_error
use Rattle.flow_world_steps.specs.Appends.{Tries}
use Rattle.flow_world_steps.specs.Appends.Tries.{done, failed, limited}
use Rattle.flow_world_steps.specs.Steps.{Step, after_reach}
use Rattle.flow_world_steps.specs.Steps.Step.{opens_clock, finds_run_used, asks_clock, finds_late, begins, moves, upgrades, tells, expires, says, fails_to_say}
use Rattle.flow_world_steps.specs.Steps.Step.{puts_first, resends, takes, finds_none, fails_to_take, drops, replies, ignores_reply, acts_on, repeats_reply, fails_to_act, wants_memory_now}
use Rattle.flow_world_steps.specs.Steps.Steps.{nothing, and_then}
use Rattle.flow_world_steps.specs.Sums.{EachSpeaks, Speaks, one_if, owed_lines}
use Rattle.flow_world_steps.specs.Worlds.{World, rests, waits, refused, past}
use Rattle.flow_world_steps.proofs.Growth.{gains_none, gains_one, gains_then, get_last_or}

-- ---- a line stays that of its record

-- a history that may have records more
record GoesOnTo (h k : HistoryView) : Type 0 where
  pub more : List Record
  pub records : k.records ≡ h.records ++ more
  pub given : k.seen.given ≡ h.seen.given
  pub run : k.seen.run ≡ h.seen.run

below : {T : Type 0} (xs : List T) (n : ℕ) (x : T) → slice_get xs n ≡ Some x → n < length xs
below [] n x e = absurd (cc)
below (y ∷ xs) zero x e = omega arith
below (y ∷ xs) (suc n) x e = let lt = below xs n x e in omega (arith, lt)

line_stays : (h k : HistoryView) (n : ℕ) (bytes : List ℕ) → GoesOnTo h k → IsLineAt h n bytes → IsLineAt k n bytes
line_stays h k n bytes on line =
    let lt : n < length h.records = below h.records n line.it line.there in
    let same : take n k.records ≡ take n h.records = ap (λ (l : List Record). take n l) on.records ∙ take-append-le n h.records on.more (omega (arith, lt)) in
    record {
      it = line.it;
      before = line.before;
      there = subst (λ (l : List Record). slice_get l n ≡ Some line.it) (sym on.records) (get_more h.records on.more n line.it line.there);
      shows = subst (λ (l : List Record). IsShownBefore k.seen.given k.seen.run l line.before) (sym same)
          (subst (λ (g : Given). IsShownBefore g k.seen.run (take n h.records) line.before) (sym on.given)
          (subst (λ (r : ℕ). IsShownBefore h.seen.given r (take n h.records) line.before) (sym on.run) line.shows));
      is = line.is;
    }

on_same : (v w : EngineView) → w ≡ v → GoesOnTo v.history w.history
on_same v w e = record {
  more = [];
  records = ap (λ (x : EngineView). x.history.records) e ∙ sym (append-nil v.history.records);
  given = ap (λ (x : EngineView). x.history.seen.given) e;
  run = ap (λ (x : EngineView). x.history.seen.run) e;
}

on_put : (old new : World) (puts : OpenIssues) → new.engine ≡ record old.engine { puts = puts } → GoesOnTo old.engine.history new.engine.history
on_put old new puts e = record {
  more = [];
  records = ap (λ (x : EngineView). x.history.records) e ∙ sym (append-nil old.engine.history.records);
  given = ap (λ (x : EngineView). x.history.seen.given) e;
  run = ap (λ (x : EngineView). x.history.seen.run) e;
}

-- ---- one step more

-- nothing was said, and as much is owed
still : (a old new : World) → Speaks a old → new.engine.history.records ≡ old.engine.history.records → GoesOnTo old.engine.history new.engine.history
    → new.site.link.said ≡ old.site.link.said → owed_lines new.phase ≡ owed_lines old.phase → Speaks a new
still a old new p records on said owed = record {
  said = p.said;
  says = subst (λ (o : Option (List (ℕ × List ℕ))). GainsAll a.site.link.said p.said o) (sym said) p.says;
  many = omega (arith, ap (λ (l : List Record). length l) records, owed, p.many);
  lines = λ k e is. line_stays old.engine.history new.engine.history _ e.1 on (p.lines k e is);
}

pub same : (a old new : World) → Speaks a old → new.engine ≡ old.engine → new.site.link.said ≡ old.site.link.said → owed_lines new.phase ≡ owed_lines old.phase → Speaks a new
same a old new p e = still a old new p (ap (λ (x : EngineView). x.history.records) e) (on_same old.engine new.engine e)

said_of : (old new : SiteView) → new ≡ old → new.link.said ≡ old.link.said
said_of old new e = ap (λ (s : SiteView). s.link.said) e

link_of : (old new : LinkView) → new ≡ old → new.said ≡ old.said
link_of old new e = ap (λ (l : LinkView). l.said) e

reached_free : (moment answer : ℕ) → owed_lines (after_reach moment answer) ≡ 0
reached_free moment answer = by (nat_lt last_moment answer) (nat_lt answer moment)
  where
    by : (a b : Bool) → owed_lines (if a then refused (past limit.Moment) false else if b then waits moment else rests) ≡ 0
    by true b = refl
    by false true = refl
    by false false = refl

tried : (IsNext : Record → Type 0) (a old new : World) → Speaks a old → owed_lines old.phase ≡ 0 → Tries IsNext old new → Speaks a new
tried IsNext a old new p free (done is) =
    let offers = is.appends.adds.offers in
    let next = offers.comes.next in
    let records : new.engine.history.records ≡ old.engine.history.records ++ next ∷ [] = ap (λ (h : HistoryView). h.records) is.appends.adds.view in
    let on : GoesOnTo old.engine.history new.engine.history = record {
      more = next ∷ [];
      records = records;
      given = ap (λ (h : HistoryView). h.seen.given) is.appends.adds.view;
      run = ap (λ (h : HistoryView). h.seen.run) is.appends.adds.view;
    } in
    let long : length new.engine.history.records ≡ length old.engine.history.records + 1 =
    ap (λ (l : List Record). length l) records ∙ length-append old.engine.history.records (next ∷ []) in
    let owed : owed_lines new.phase ≡ 1 = ap owed_lines is.phase in
    record {
      said = p.said;
      says = subst (λ (o : Option (List (ℕ × List ℕ))). GainsAll a.site.link.said p.said o) (sym (link_of old.site.link new.site.link offers.file.rest.link)) p.says;
      many = omega (arith, long, owed, free, p.many);
      lines = λ k e there. line_stays old.engine.history new.engine.history _ e.1 on (p.lines k e there);
    }
tried IsNext a old new p free (failed is) =
    let records : new.engine.history.records ≡ old.engine.history.records = ap (λ (h : HistoryView). h.records) is.refuses.0.1 in
    still a old new p records (record {
      more = [];
      records = records ∙ sym (append-nil old.engine.history.records);
      given = ap (λ (h : HistoryView). h.seen.given) is.refuses.0.1;
      run = ap (λ (h : HistoryView). h.seen.run) is.refuses.0.1;
    }) (link_of old.site.link new.site.link is.refuses.0.0.file.rest.link) (ap owed_lines is.phase ∙ sym free)
tried IsNext a old new p free (limited what is) =
    let records : new.engine.history.records ≡ old.engine.history.records = ap (λ (h : HistoryView). h.records) is.refuses.0.1 in
    still a old new p records (record {
      more = [];
      records = records ∙ sym (append-nil old.engine.history.records);
      given = ap (λ (h : HistoryView). h.seen.given) is.refuses.0.1;
      run = ap (λ (h : HistoryView). h.seen.run) is.refuses.0.1;
    }) (said_of old.site new.site is.refuses.0.2) (ap owed_lines is.phase ∙ sym free)

pub fails_said : (v : ActuatorView) (parcel : Parcel) (moment : ℕ) (old new : SiteView) (error : ActError) → MayHaveDone error v parcel moment old new → new.link ≡ old.link
fails_said v parcel moment old new act_error.Disk offers = offers.adds.file.rest.link
fails_said v parcel moment old new act_error.Memory may = elim may [ inl e ↦ ap (λ (s : SiteView). s.link) e | inr offers ↦ offers.adds.file.rest.link ]
fails_said v parcel moment old new (act_error.Damaged place) e = ap (λ (s : SiteView). s.link) e
fails_said v parcel moment old new (act_error.Full length) e = ap (λ (s : SiteView). s.link) e
fails_said v parcel moment old new act_error.Broken e = ap (λ (s : SiteView). s.link) e

more_said : (a old new : World) (bytes : List ℕ) (at : ℕ) → Speaks a old → owed_lines old.phase ≡ 1 → owed_lines new.phase ≡ 0 → new.engine ≡ old.engine → (n : ℕ)
    → n + 1 ≡ length old.engine.history.records → IsLineAt old.engine.history n bytes → Gains old.site.link.said (at, bytes) new.site.link.said → Speaks a new
more_said a old new bytes at p owed free e n last line gained =
    let on = on_same old.engine new.engine e in
    let here : n ≡ length a.engine.history.records + length p.said = omega (arith, last, owed, p.many) in
    record {
      said = p.said ++ (at, bytes) ∷ [];
      says = gains_then a.site.link.said old.site.link.said new.site.link.said p.said ((at, bytes) ∷ []) p.says (gains_one old.site.link.said new.site.link.said (at, bytes) gained);
      many = omega (arith, length-append p.said ((at, bytes) ∷ []), ap (λ (x : EngineView). length x.history.records) e, owed, free, p.many);
      lines = λ k entry there. elim (get_last_or p.said (at, bytes) entry k there) [
        | inl before ↦ line_stays old.engine.history new.engine.history _ entry.1 on (p.lines k entry before)
        | inr is ↦
            let number : n ≡ length a.engine.history.records + k = omega (arith, here, is.0) in
            subst (λ (x : ℕ × List ℕ). IsLineAt new.engine.history (length a.engine.history.records + k) x.1) is.1
            (subst (λ (m : ℕ). IsLineAt new.engine.history m bytes) number (line_stays old.engine.history new.engine.history n bytes on line))
      ];
    }

pub step_speaks : (a old new : World) → Speaks a old → Step old new → Speaks a new
step_speaks a old new p (opens_clock answer is) = same a old new p is.goes.sides.engine is.goes.reaches.said (ap owed_lines is.goes.phase ∙ reached_free _ answer ∙ sym (ap owed_lines is.phase))
step_speaks a old new p (finds_run_used agent is) = same a old new p is.only.sides.engine (said_of old.site new.site is.only.site) (ap owed_lines is.only.phase ∙ sym (ap owed_lines is.phase))
step_speaks a old new p (asks_clock moment answer is) = same a old new p is.goes.sides.engine is.goes.reaches.said (ap owed_lines is.goes.phase ∙ reached_free moment answer ∙ sym (ap owed_lines is.next.up_to_date.on_time.untold.idle.has_looked.phase))
step_speaks a old new p (finds_late moment is) = same a old new p is.only.sides.engine (said_of old.site new.site is.only.site) (ap owed_lines is.only.phase ∙ sym (ap owed_lines is.next.up_to_date.on_time.untold.idle.has_looked.phase))
step_speaks a old new p (begins is) = tried _ a old new p (ap owed_lines is.phase) is.tries
step_speaks a old new p (moves is) = tried _ a old new p (ap owed_lines is.has_looked.phase) is.tries
step_speaks a old new p (upgrades issue told is) = tried _ a old new p (ap owed_lines is.to_be_told.idle.has_looked.phase) is.tries
step_speaks a old new p (tells issue told is) = tried _ a old new p (ap owed_lines is.to_be_told.idle.has_looked.phase) is.tries
step_speaks a old new p (expires issue is) = tried _ a old new p (ap owed_lines is.overdue.untold.idle.has_looked.phase) is.tries
step_speaks a old new p (says bytes is) = more_said a old new bytes _ p (ap owed_lines is.speaks.phase) (ap owed_lines is.phase) is.speaks.sides.engine is.speaks.line.n is.speaks.line.last is.speaks.line.line is.said
step_speaks a old new p (fails_to_say bytes is) = same a old new p is.speaks.sides.engine is.unsaid (ap owed_lines is.phase ∙ sym (ap owed_lines is.speaks.phase))
step_speaks a old new p (puts_first issue is) = still a old new p (ap (λ (x : EngineView). x.history.records) is.puts.sends.view) (on_put old new _ is.puts.sends.view) is.puts.sends.put.said (ap owed_lines is.puts.phase ∙ sym (ap owed_lines is.phase))
step_speaks a old new p (resends issue is) = still a old new p (ap (λ (x : EngineView). x.history.records) is.puts.sends.view) (on_put old new _ is.puts.sends.view) is.puts.sends.put.said (ap owed_lines is.puts.phase ∙ sym (ap owed_lines is.due.on_time.untold.idle.has_looked.phase))
step_speaks a old new p (takes parcel is) = same a old new p is.sides.engine is.only.said (ap owed_lines is.phase ∙ sym (ap owed_lines is.turn.phase))
step_speaks a old new p (finds_none is) = same a old new p is.sides.engine is.only.said (ap owed_lines is.phase ∙ sym (ap owed_lines is.turn.phase))
step_speaks a old new p (fails_to_take is) = same a old new p is.sides.engine is.only.said (ap owed_lines is.phase ∙ sym (ap owed_lines is.turn.phase))
step_speaks a old new p (drops beat parcel is) = same a old new p is.ignores.engine (said_of old.site new.site is.site) (ap owed_lines is.ignores.phase ∙ sym (ap owed_lines is.phase))
step_speaks a old new p (replies beat parcel is) = tried _ a old new p (ap owed_lines is.holds_reply.phase) is.tries
step_speaks a old new p (ignores_reply beat parcel is) = same a old new p is.ignores.engine (said_of old.site new.site is.site) (ap owed_lines is.ignores.phase ∙ sym (ap owed_lines is.holds_reply.phase))
step_speaks a old new p (acts_on beat parcel v w is) = same a old new p is.engine (is.acts.puts.said ∙ link_of old.site.link is.acts.between.link is.acts.offers.adds.file.rest.link) (ap owed_lines is.phase ∙ sym (ap owed_lines is.holds_command.phase))
step_speaks a old new p (repeats_reply beat parcel v w is) = same a old new p is.ignores.engine is.repeats.puts.said (ap owed_lines is.ignores.phase ∙ sym (ap owed_lines is.holds_command.phase))
step_speaks a old new p (fails_to_act beat parcel v w error cause is) = same a old new p is.engine (link_of old.site.link new.site.link (fails_said v parcel old.site.clock.now old.site new.site error is.refuses.site)) (ap owed_lines is.phase ∙ sym (ap owed_lines is.holds_command.phase))
step_speaks a old new p (wants_memory_now is) = same a old new p is.only.sides.engine (said_of old.site new.site is.only.site) (ap owed_lines is.only.phase)

pub steps_speak : EachSpeaks
steps_speak a b free nothing = record {
  said = [];
  says = gains_none a.site.link.said;
  many = omega (arith, ap one_if free);
  lines = λ k e is. absurd (none_there k e is);
}
  where
    none_there : (k : ℕ) (e : ℕ × List ℕ) → slice_get [] k ≡ Some e → ⊥
    none_there zero e is = cc
    none_there (suc k) e is = cc
steps_speak a b free (and_then {mid} steps step) = step_speaks a mid b (steps_speak a mid free steps) step
