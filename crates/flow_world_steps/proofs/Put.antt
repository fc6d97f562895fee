-- The commands and the replies that a session puts.
use Rattle.std.proofs.Common.{◌≡◌, ◌⊎◌, inl, inr, ℕ, ◌+◌, ◌≤◌, Bool, true, false, List, [], ◌∷◌, ◌++◌, refl, sym, ◌∙◌, subst, ap, arith, All}
use Rattle.std.specs.Prelude.{Option, nat_eq, nat_lt, if◌then◌else◌}
use Rattle.std.proofs.lemmas.Bool.{false≢true}
use Rattle.std.proofs.lemmas.List.Elements.{All-append, All-nil}
use Rattle.cacao_site.specs.LinkCalls.{GainsAll}
use Rattle.cacao_site.specs.SiteCalls.{Puts}
use Rattle.cacao_site.specs.View.{LinkView, SiteView}
use Rattle.cacao_site.specs.declared.parcel.Parcel.{Parcel}
use Rattle.run_records.specs.Ranges.{last_moment}
use Rattle.run_records.specs.declared.record.Record.{Record}
use Rattle.flow_engine.specs.LimitKind.TheVariants as limit
use Rattle.flow_core_rules.specs.declared.issues.Issue.{Issue}
use Rattle.flow_engine.specs.HistoryView.{HistoryView}
use Rattle.flow_engine.specs.EngineCalls.{command_of}
use Rattle.flow_world_steps.specs.Appends.{Tries}
use Rattle.flow_world_steps.specs.Appends.Tries.{done, failed, limited}
use Rattle.flow_world_steps.specs.Link.{EachPutsFew, EachRepliesFew, IsOwn, PutsNoted, RepliesFew, commands_in, commands_of, in_hand, one_command, replies_in}
use Rattle.flow_world_steps.specs.Sides.{times}
use Rattle.flow_world_steps.specs.Steps.{PutsCommand, Step, after_reach}
use Rattle.flow_world_steps.specs.Steps.Step.{opens_clock, finds_run_used, asks_clock, finds_late, begins, moves, upgrades, tells, expires, says, fails_to_say}
use Rattle.flow_world_steps.specs.Steps.Step.{puts_first, resends, takes, finds_none, fails_to_take, drops, replies, ignores_reply, acts_on, repeats_reply, fails_to_act, wants_memory_now}
use Rattle.flow_world_steps.specs.Steps.Steps.{nothing, and_then}
use Rattle.flow_world_steps.specs.Worlds.{World, Notes, rests, holds, waits, refused, past}
use Rattle.flow_world_steps.proofs.Agreement.{steps_run}
use Rattle.flow_world_steps.proofs.Issues.{eq_itself}
use Rattle.flow_world_steps.proofs.Handling.{All-one}
use Rattle.flow_world_steps.proofs.Growth.{gains_none, gains_one, gains_same, gains_then}
use Rattle.flow_world_steps.proofs.Spoken.{fails_said}
use Rattle.flow_world_steps.proofs.Failing.{fails_notes}

-- ---- a list and its end

pub times_more : (issue : ℕ) (put : List ℕ) (last : ℕ) → times issue (put ++ last ∷ []) ≡ times issue put + (if nat_eq last issue then 1 else 0)
times_more issue [] last = omega arith
times_more issue (x ∷ put) last = let rest = times_more issue put last in omega (arith, rest)

pub commands_more : (run issue : ℕ) (xs ys : List (ℕ × Parcel)) → commands_of run issue (xs ++ ys) ≡ commands_of run issue xs + commands_of run issue ys
commands_more run issue [] ys = omega arith
commands_more run issue (x ∷ xs) ys = let rest = commands_more run issue xs ys in omega (arith, rest)

-- the command of an issue is one of the run
pub own_command : (h : HistoryView) (issue : ℕ) (it : Issue) (i : ℕ) → one_command h.seen.run i (command_of h issue it) ≡ (if nat_eq issue i then 1 else 0)
own_command h issue it i = ap (λ (b : Bool). if b then (if nat_eq issue i then 1 else 0) else 0) (eq_itself h.seen.run)

replies_more : (xs ys : List (ℕ × Parcel)) → replies_in (xs ++ ys) ≡ replies_in xs + replies_in ys
replies_more [] ys = omega arith
replies_more (x ∷ xs) ys = let rest = replies_more xs ys in omega (arith, rest)

taken_more : (xs ys : List (ℕ × Parcel)) → commands_in (xs ++ ys) ≡ commands_in xs + commands_in ys
taken_more [] ys = omega arith
taken_more (x ∷ xs) ys = let rest = taken_more xs ys in omega (arith, rest)

-- ---- what a put adds

-- the puts that a call added: the parcel, or nothing where it was lost
pub record Added (parcel : Parcel) (old new : SiteView) : Type 0 where
  pub put : List (ℕ × Parcel)
  pub puts : GainsAll old.link.puts put new.link.puts
  pub is : (put ≡ (new.disk.beat, parcel) ∷ []) ⊎ (put ≡ [])

pub added : (parcel : Parcel) (old new : SiteView) → Puts parcel old new → Added parcel old new
added parcel old new puts = elim puts.puts [
  | inl gained ↦ record { put = (new.disk.beat, parcel) ∷ []; puts = gains_one old.link.puts new.link.puts (new.disk.beat, parcel) gained; is = inl refl }
  | inr lost ↦ record { put = []; puts = gains_same old.link.puts new.link.puts lost.0; is = inr refl }
]

-- ---- commands

pub noted_none : (old new : World) → new.site.link.puts ≡ old.site.link.puts → new.notes.put ≡ old.notes.put → PutsNoted old new
noted_none old new puts notes = record {
  put = [];
  puts = gains_same old.site.link.puts new.site.link.puts puts;
  own = All-nil _;
  noted = λ issue. omega (arith, ap (times issue) notes);
}

link_puts : (old new : SiteView) → new.link ≡ old.link → new.link.puts ≡ old.link.puts
link_puts old new e = ap (λ (l : LinkView). l.puts) e

site_puts : (old new : SiteView) → new ≡ old → new.link.puts ≡ old.link.puts
site_puts old new e = ap (λ (s : SiteView). s.link.puts) e

notes_put : (old new : World) → new.notes ≡ old.notes → new.notes.put ≡ old.notes.put
notes_put old new e = ap (λ (n : Notes). n.put) e

tried_noted : (IsNext : Record → Type 0) (old new : World) → Tries IsNext old new → PutsNoted old new
tried_noted IsNext old new (done is) = noted_none old new (link_puts old.site new.site is.appends.adds.offers.file.rest.link) (ap (λ (n : Notes). n.put) is.notes)
tried_noted IsNext old new (failed is) = noted_none old new (link_puts old.site new.site is.refuses.0.0.file.rest.link) (ap (λ (n : Notes). n.put) is.notes)
tried_noted IsNext old new (limited what is) = noted_none old new (site_puts old.site new.site is.refuses.0.2) (notes_put old new is.notes)

command_noted : (old new : World) (issue : ℕ) → PutsCommand issue old new → PutsNoted old new
command_noted old new issue is =
    let more = added _ old.site new.site is.sends.put in
    let notes : new.notes.put ≡ old.notes.put ++ issue ∷ [] = ap (λ (n : Notes). n.put) is.notes in
    let run = old.engine.history.seen.run in
    record {
      put = more.put;
      puts = more.puts;
      own = elim more.is [
        | inl one ↦ subst (λ (l : List (ℕ × Parcel)). All (IsOwn run) l) (sym one) (All-one (IsOwn run) _ (λ command. refl))
        | inr none ↦ subst (λ (l : List (ℕ × Parcel)). All (IsOwn run) l) (sym none) (All-nil _)
      ];
      noted = λ i.
          let now : times i new.notes.put ≡ times i old.notes.put + (if nat_eq issue i then 1 else 0) = ap (times i) notes ∙ times_more i old.notes.put issue in
          elim more.is [
            | inl one ↦ omega (arith, now, ap (commands_of run i) one, own_command old.engine.history issue is.sends.it i)
            | inr none ↦ omega (arith, now, ap (commands_of run i) none)
          ];
    }

-- a reply is no command
reply_noted : (parcel : Parcel) (old new : World) (mid : SiteView) → parcel.back ≡ true → mid.link.puts ≡ old.site.link.puts → Puts parcel mid new.site → new.notes.put ≡ old.notes.put → PutsNoted old new
reply_noted parcel old new mid back same puts notes =
    let more = added parcel mid new.site puts in
    record {
      put = more.put;
      puts = subst (λ (o : Option (List (ℕ × Parcel))). GainsAll o more.put new.site.link.puts) same more.puts;
      own = elim more.is [
        | inl one ↦ subst (λ (l : List (ℕ × Parcel)). All (IsOwn old.engine.history.seen.run) l) (sym one)
            (All-one (IsOwn old.engine.history.seen.run) (new.site.disk.beat, parcel) (λ command. absurd (false≢true (sym command ∙ back))))
        | inr none ↦ subst (λ (l : List (ℕ × Parcel)). All (IsOwn old.engine.history.seen.run) l) (sym none) (All-nil _)
      ];
      noted = λ i. elim more.is [
        | inl one ↦ omega (arith, ap (times i) notes, ap (commands_of old.engine.history.seen.run i) one, no_command i)
        | inr none ↦ omega (arith, ap (times i) notes, ap (commands_of old.engine.history.seen.run i) none)
      ];
    }
  where
    no_command : (i : ℕ) → one_command old.engine.history.seen.run i parcel ≡ 0
    no_command i = ap (λ (b : Bool). if b then 0 else if nat_eq parcel.run old.engine.history.seen.run then (if nat_eq parcel.issue i then 1 else 0) else 0) back

pub step_noted : (old new : World) → Step old new → PutsNoted old new
step_noted old new (opens_clock answer is) = noted_none old new is.goes.reaches.puts (ap (λ (n : Notes). n.put) is.goes.notes)
step_noted old new (finds_run_used agent is) = noted_none old new (site_puts old.site new.site is.only.site) (ap (λ (n : Notes). n.put) is.only.notes)
step_noted old new (asks_clock moment answer is) = noted_none old new is.goes.reaches.puts (ap (λ (n : Notes). n.put) is.goes.notes)
step_noted old new (finds_late moment is) = noted_none old new (site_puts old.site new.site is.only.site) (ap (λ (n : Notes). n.put) is.only.notes)
step_noted old new (begins is) = tried_noted _ old new is.tries
step_noted old new (moves is) = tried_noted _ old new is.tries
step_noted old new (upgrades issue told is) = tried_noted _ old new is.tries
step_noted old new (tells issue told is) = tried_noted _ old new is.tries
step_noted old new (expires issue is) = tried_noted _ old new is.tries
step_noted old new (says bytes is) = noted_none old new is.speaks.only.puts (ap (λ (n : Notes). n.put) is.speaks.notes)
step_noted old new (fails_to_say bytes is) = noted_none old new is.speaks.only.puts (ap (λ (n : Notes). n.put) is.speaks.notes)
step_noted old new (puts_first issue is) = command_noted old new issue is.puts
step_noted old new (resends issue is) = command_noted old new issue is.puts
step_noted old new (takes parcel is) = noted_none old new is.only.puts (ap (λ (n : Notes). n.put) is.notes)
step_noted old new (finds_none is) = noted_none old new is.only.puts (ap (λ (n : Notes). n.put) is.notes)
step_noted old new (fails_to_take is) = noted_none old new is.only.puts (ap (λ (n : Notes). n.put) is.notes)
step_noted old new (drops beat parcel is) = noted_none old new (site_puts old.site new.site is.site) (ap (λ (n : Notes). n.put) is.ignores.notes)
step_noted old new (replies beat parcel is) = tried_noted _ old new is.tries
step_noted old new (ignores_reply beat parcel is) = noted_none old new (site_puts old.site new.site is.site) (ap (λ (n : Notes). n.put) is.ignores.notes)
step_noted old new (acts_on beat parcel v w is) = reply_noted _ old new is.acts.between refl (link_puts old.site is.acts.between is.acts.offers.adds.file.rest.link) is.acts.puts (ap (λ (n : Notes). n.put) is.notes)
step_noted old new (repeats_reply beat parcel v w is) = reply_noted _ old new old.site refl refl is.repeats.puts (ap (λ (n : Notes). n.put) is.ignores.notes)
step_noted old new (fails_to_act beat parcel v w error cause is) = noted_none old new (link_puts old.site new.site (fails_said v parcel old.site.clock.now old.site new.site error is.refuses.site)) (ap (λ (n : Notes). n.put) (fails_notes error parcel v old new is.notes))
step_noted old new (wants_memory_now is) = noted_none old new (site_puts old.site new.site is.only.site) (ap (λ (n : Notes). n.put) is.only.notes)

pub noted-trans : (a b c : World) → b.engine.history.seen.run ≡ a.engine.history.seen.run → PutsNoted a b → PutsNoted b c → PutsNoted a c
noted-trans a b c same_run p q = record {
  put = p.put ++ q.put;
  puts = gains_then a.site.link.puts b.site.link.puts c.site.link.puts p.put q.put p.puts q.puts;
  own = All-append (IsOwn a.engine.history.seen.run) p.put q.put p.own (subst (λ (r : ℕ). All (IsOwn r) q.put) same_run q.own);
  noted = λ issue. omega (arith, commands_more a.engine.history.seen.run issue p.put q.put, p.noted issue, q.noted issue, ap (λ (r : ℕ). commands_of r issue q.put) same_run);
}

pub steps_put_few : EachPutsFew
steps_put_few a b nothing = noted_none a a refl refl
steps_put_few a b (and_then {mid} steps step) = noted-trans a mid b (steps_run a mid steps) (steps_put_few a mid steps) (step_noted mid b step)

-- ---- replies

-- what was put and taken, and what is in hand
few : (old new : World) (put taken : List (ℕ × Parcel)) (before after : ℕ) → GainsAll old.site.link.puts put new.site.link.puts → GainsAll old.site.link.taken taken new.site.link.taken
    → in_hand old.phase ≡ before → in_hand new.phase ≡ after → replies_in put + after ≤ commands_in taken + before → RepliesFew old new
few old new put taken before after gained got was is le = record { put = put; puts = gained; taken = taken; takes = got; few = omega (arith, was, is, le) }

pub few_none : (old new : World) → new.site.link.puts ≡ old.site.link.puts → new.site.link.taken ≡ old.site.link.taken → in_hand new.phase ≡ 0 → RepliesFew old new
few_none old new puts taken is = record {
  put = [];
  puts = gains_same old.site.link.puts new.site.link.puts puts;
  taken = [];
  takes = gains_same old.site.link.taken new.site.link.taken taken;
  few = omega (arith, is);
}

hand_reached : (moment answer : ℕ) → in_hand (after_reach moment answer) ≡ 0
hand_reached moment answer = by (nat_lt last_moment answer) (nat_lt answer moment)
  where
    by : (a b : Bool) → in_hand (if a then refused (past limit.Moment) false else if b then waits moment else rests) ≡ 0
    by true b = refl
    by false true = refl
    by false false = refl

link_taken : (old new : SiteView) → new.link ≡ old.link → new.link.taken ≡ old.link.taken
link_taken old new e = ap (λ (l : LinkView). l.taken) e

site_taken : (old new : SiteView) → new ≡ old → new.link.taken ≡ old.link.taken
site_taken old new e = ap (λ (s : SiteView). s.link.taken) e

tried_few : (IsNext : Record → Type 0) (old new : World) → Tries IsNext old new → RepliesFew old new
tried_few IsNext old new (done is) = few_none old new (link_puts old.site new.site is.appends.adds.offers.file.rest.link) (link_taken old.site new.site is.appends.adds.offers.file.rest.link) (ap in_hand is.phase)
tried_few IsNext old new (failed is) = few_none old new (link_puts old.site new.site is.refuses.0.0.file.rest.link) (link_taken old.site new.site is.refuses.0.0.file.rest.link) (ap in_hand is.phase)
tried_few IsNext old new (limited what is) = few_none old new (site_puts old.site new.site is.refuses.0.2) (site_taken old.site new.site is.refuses.0.2) (ap in_hand is.phase)

-- a command is no reply
command_few : (old new : World) (issue : ℕ) → PutsCommand issue old new → RepliesFew old new
command_few old new issue is =
    let more = added _ old.site new.site is.sends.put in
    record {
      put = more.put;
      puts = more.puts;
      taken = [];
      takes = gains_same old.site.link.taken new.site.link.taken is.sends.put.taken;
      few = elim more.is [
        | inl one ↦ omega (arith, ap replies_in one, ap in_hand is.phase)
        | inr none ↦ omega (arith, ap replies_in none, ap in_hand is.phase)
      ];
    }

-- a reply takes the place of the command in hand
reply_few : (reply parcel : Parcel) (beat : ℕ) (old new : World) (mid : SiteView) → parcel.back ≡ false → old.phase ≡ holds beat parcel → new.phase ≡ rests
    → mid.link ≡ old.site.link → Puts reply mid new.site → RepliesFew old new
reply_few reply parcel beat old new mid command was is same puts =
    let more = added reply mid new.site puts in
    let held : in_hand old.phase ≡ 1 = ap in_hand was ∙ ap (λ (b : Bool). if b then 0 else 1) command in
    record {
      put = more.put;
      puts = subst (λ (l : LinkView). GainsAll l.puts more.put new.site.link.puts) same more.puts;
      taken = [];
      takes = gains_same old.site.link.taken new.site.link.taken (puts.taken ∙ ap (λ (l : LinkView). l.taken) same);
      few = elim more.is [
        | inl one ↦ omega (arith, ap replies_in one, one_at_most reply.back, held, ap in_hand is)
        | inr none ↦ omega (arith, ap replies_in none, held, ap in_hand is)
      ];
    }
  where
    one_at_most : (b : Bool) → (if b then 1 else 0) ≤ 1
    one_at_most true = omega arith
    one_at_most false = omega arith

pub step_few : (old new : World) → Step old new → RepliesFew old new
step_few old new (opens_clock answer is) = few_none old new is.goes.reaches.puts is.goes.reaches.taken (ap in_hand is.goes.phase ∙ hand_reached _ answer)
step_few old new (finds_run_used agent is) = few_none old new (site_puts old.site new.site is.only.site) (site_taken old.site new.site is.only.site) (ap in_hand is.only.phase)
step_few old new (asks_clock moment answer is) = few_none old new is.goes.reaches.puts is.goes.reaches.taken (ap in_hand is.goes.phase ∙ hand_reached moment answer)
step_few old new (finds_late moment is) = few_none old new (site_puts old.site new.site is.only.site) (site_taken old.site new.site is.only.site) (ap in_hand is.only.phase)
step_few old new (begins is) = tried_few _ old new is.tries
step_few old new (moves is) = tried_few _ old new is.tries
step_few old new (upgrades issue told is) = tried_few _ old new is.tries
step_few old new (tells issue told is) = tried_few _ old new is.tries
step_few old new (expires issue is) = tried_few _ old new is.tries
step_few old new (says bytes is) = few_none old new is.speaks.only.puts is.speaks.only.taken (ap in_hand is.phase)
step_few old new (fails_to_say bytes is) = few_none old new is.speaks.only.puts is.speaks.only.taken (ap in_hand is.phase)
step_few old new (puts_first issue is) = command_few old new issue is.puts
step_few old new (resends issue is) = command_few old new issue is.puts
step_few old new (takes parcel is) = few old new [] ((new.site.disk.beat, parcel) ∷ []) 0 (if parcel.back then 0 else 1) (gains_same old.site.link.puts new.site.link.puts is.only.puts)
    (gains_one old.site.link.taken new.site.link.taken (new.site.disk.beat, parcel) is.some.taken) (ap in_hand is.turn.phase) (ap in_hand is.phase) (omega arith)
step_few old new (finds_none is) = few_none old new is.only.puts is.none.taken (ap in_hand is.phase)
step_few old new (fails_to_take is) = few_none old new is.only.puts (link_taken old.site new.site is.link) (ap in_hand is.phase)
step_few old new (drops beat parcel is) = few_none old new (site_puts old.site new.site is.site) (site_taken old.site new.site is.site) (ap in_hand is.ignores.phase)
step_few old new (replies beat parcel is) = tried_few _ old new is.tries
step_few old new (ignores_reply beat parcel is) = few_none old new (site_puts old.site new.site is.site) (site_taken old.site new.site is.site) (ap in_hand is.ignores.phase)
step_few old new (acts_on beat parcel v w is) = reply_few _ parcel beat old new is.acts.between is.holds_command.command is.holds_command.phase is.phase is.acts.offers.adds.file.rest.link is.acts.puts
step_few old new (repeats_reply beat parcel v w is) = reply_few _ parcel beat old new old.site is.holds_command.command is.holds_command.phase is.ignores.phase refl is.repeats.puts
step_few old new (fails_to_act beat parcel v w error cause is) = few_none old new (link_puts old.site new.site (fails_said v parcel old.site.clock.now old.site new.site error is.refuses.site))
    (link_taken old.site new.site (fails_said v parcel old.site.clock.now old.site new.site error is.refuses.site)) (ap in_hand is.phase)
step_few old new (wants_memory_now is) = few_none old new (site_puts old.site new.site is.only.site) (site_taken old.site new.site is.only.site) (ap in_hand is.only.phase)

pub few-trans : (a b c : World) → RepliesFew a b → RepliesFew b c → RepliesFew a c
few-trans a b c p q = record {
  put = p.put ++ q.put;
  puts = gains_then a.site.link.puts b.site.link.puts c.site.link.puts p.put q.put p.puts q.puts;
  taken = p.taken ++ q.taken;
  takes = gains_then a.site.link.taken b.site.link.taken c.site.link.taken p.taken q.taken p.takes q.takes;
  few = omega (arith, replies_more p.put q.put, taken_more p.taken q.taken, p.few, q.few);
}

pub steps_reply_few : EachRepliesFew
steps_reply_few a b nothing = record {
  put = [];
  puts = gains_none a.site.link.puts;
  taken = [];
  takes = gains_none a.site.link.taken;
  few = omega arith;
}
steps_reply_few a b (and_then {mid} steps step) = few-trans a mid b (steps_reply_few a mid steps) (step_few mid b step)
