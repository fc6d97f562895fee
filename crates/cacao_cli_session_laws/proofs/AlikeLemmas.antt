-- What a status and the files tell of each other where other files read alike.
use Rattle.std.proofs.Common.{◌≡◌, ◌≢◌, ◌⊎◌, inl, inr, ◌∙◌, refl, sym, ap, subst, arith, ℕ, ◌+◌, ◌<◌, ◌≤◌, List, [], ◌∷◌, ◌++◌, length, Bool, true, false, Option, Some, None}
use Rattle.std.specs.Prelude.{IfSome, IsTrue}
use Rattle.cacao_site.specs.View.{SiteView}
use Rattle.cacao_site.specs.declared.parcel.Parcel.{Parcel}
use Rattle.run_records.specs.declared.act.Act.{Act}
use Rattle.flow_core.specs.declared.flow_errors.LimitKind.TheVariants as limit
use Rattle.flow_core_rules.specs.Moves.{enabled_move}
use Rattle.flow_core_rules.specs.State.{Shown}
use Rattle.flow_engine_history.specs.Openings.{RefusesImage}
use Rattle.flow_engine_history.specs.declared.error.EngineError.TheVariants as refusal
use Rattle.flow_laws.specs.Images.{IsActs, IsRecords}
use Rattle.flow_world_steps.specs.Grown.{acts_of}
use Rattle.flow_world_steps.specs.Handled.{one_reply}
use Rattle.flow_world_steps.specs.Sums.{total}
use Rattle.slpf_actuator.specs.ActLists.{length_with}
use Rattle.slpf_actuator.specs.ActuatorView.{act_for}
use Rattle.slpf_actuator.specs.Damage.{IsDamaged}
use Rattle.flow_world_laws.specs.Undamaged.{IsDamagedFor}
use Rattle.cacao_cli_ends.specs.Comes.{IsOneOf}
use Rattle.cacao_cli_ends.specs.Lines.{SaysAtMostALine}
use Rattle.cacao_cli_session_laws.specs.Returning.{AsksSo, BeginsAnother, CanGoOn, ComesInTurn, CouldAppend, DuePasses, FindsFirstUsed, FindsUsed, FloodsSo, GainsActs, GainsRecords, HasDamagedFilter, IsIdleNow, IsLateSo, IsRepliedLast, IsResend, IsTakenLast, KeepsWithin, LeavesNoReply, LeavesRecords, NextActPasses, PausesSo, ReadsAsAnother, ReadsAsDamaged, ReadsSo, ReadsTooLarge, ReturnsSo, StatusTells, NextPasses, PassesIdle, PassesInHand, WaitsFirst, WaitsInTurn, WaitsSo, WouldPassSo, or_any}
use Rattle.cacao_cli_ends.specs.Work.{Start}

-- the last line leaves the files, what a crash leaves of the engine's, the parcels taken and the clock
pub record Alike (a b : SiteView) : Type 0 where
  pub bytes : (file : ℕ) → b.disk.reads file ≡ a.disk.reads file
  pub told : b.disk.told ≡ a.disk.told
  pub left : (image : List ℕ) → b.disk.left 0 b.disk.beat image ≡ a.disk.left 0 a.disk.beat image
  pub taken : b.link.taken ≡ a.link.taken
  pub now : b.clock.now ≡ a.clock.now
  pub asked : b.clock.asked ≡ a.clock.asked

pub alike-behind : (a b : SiteView) → SaysAtMostALine a b → Alike a b
alike-behind a b (inl is) = record {
  bytes = λ file. ap (λ (s : SiteView). s.disk.reads file) is;
  told = ap (λ (s : SiteView). s.disk.told) is;
  left = λ image. ap (λ (s : SiteView). s.disk.left 0 s.disk.beat image) is;
  taken = ap (λ (s : SiteView). s.link.taken) is;
  now = ap (λ (s : SiteView). s.clock.now) is;
  asked = ap (λ (s : SiteView). s.clock.asked) is;
}
alike-behind a b (inr says) = record {
  bytes = λ file. (says.disk.stays file).reads;
  told = says.disk.goes_on.told;
  left = λ image. (says.disk.stays 0).images b.disk.beat image says.disk.goes_on.later (omega arith);
  taken = says.taken;
  now = says.time.now;
  asked = says.time.asked;
}

pub alike-back : (a b : SiteView) → Alike a b → Alike b a
alike-back a b same = record {
  bytes = λ file. sym (same.bytes file);
  told = sym same.told;
  left = λ image. sym (same.left image);
  taken = sym same.taken;
  now = sym same.now;
  asked = sym same.asked;
}

-- the status of files of which an agent's is damaged
abbrev DamagedFilterSo : Start → SiteView → ℕ → Type 0
DamagedFilterSo start site answer =
    IsOneOf answer (13 ∷ or_any []) ⊎ (((answer ≡ 11) × ReadsTooLarge start site) ⊎ ((answer ≡ 12) × ReadsAsAnother start site))

module _ (start : Start) (a b : SiteView) (same : Alike a b) where
  abbrev pub reads-there : (how : Option Bool) → ReadsSo start how a → ReadsSo start how b
  reads-there how r = record {
    given = r.given;
    accepted = r.accepted;
    seen = r.seen;
    reads = record {
      records = r.reads.records;
      reads = subst (λ (image : List ℕ). IsRecords image r.reads.records) (sym (same.bytes 0)) r.reads.reads;
      so_far = r.reads.so_far;
      given_is = r.reads.given_is;
      of_run = r.reads.of_run;
    };
    outcome_is = r.outcome_is;
  }

  abbrev gains-there : (many : ℕ) (old : SiteView) → GainsRecords many old a → GainsRecords many old b
  gains-there many old g = record {
    before = g.before;
    had = g.had;
    added = g.added;
    has = subst (λ (image : List ℕ). IsRecords image (g.before ++ g.added)) (sym (same.bytes 0)) g.has;
    as_many = g.as_many;
  }

  leaves-there : LeavesRecords a → LeavesRecords b
  leaves-there leaves told image left records are =
      leaves (subst (λ (t : Bool). IsTrue t) same.told told) image (subst (λ (l : Bool). IsTrue l) (same.left image) left) records
      (subst (λ (i : List ℕ). IsRecords i records) (same.bytes 0) are)

  kept-there : (old : SiteView) → KeepsWithin start old a → KeepsWithin start old b
  kept-there old k = record {
    many = k.many;
    gains = gains-there k.many old k.gains;
    within = k.within;
    crash = leaves-there k.crash;
  }

  pauses-there : (old : SiteView) → PausesSo start old a → PausesSo start old b
  pauses-there old p = (reads-there None p.0, gains-there start.most old p.1)

  abbrev may-there : (old : SiteView) → CanGoOn start old a → CanGoOn start old b
  may-there old m = record { goes_on = reads-there None m.goes_on; begun = m.begun; many = m.many; gains = gains-there m.many old m.gains; fewer = m.fewer }

  acts-there : (agent : ℕ) (acts : List Act) (old : SiteView) → GainsActs agent acts old a → GainsActs agent acts old b
  acts-there agent acts old g = record {
    before = g.before;
    had = g.had;
    has = subst (λ (image : List ℕ). IsActs image (g.before ++ acts)) (sym (same.bytes agent)) g.has;
  }

  abbrev floods-there : (old : SiteView) → FloodsSo start old a → FloodsSo start old b
  floods-there old f = record {
    may = may-there old f.may;
    acted = f.acted;
    of_agents = f.of_agents;
    gained = λ agent is. acts-there agent (acts_of agent f.acted) old (f.gained agent is);
    taken = subst (λ (t : Option (List (ℕ × Parcel))). IfSome old.link.taken (λ before. IfSome t (λ after.
        length after ≡ length before + (1_000_000 + total one_reply f.may.gains.added + length f.acted)))) (sym same.taken) f.taken;
  }

  idle-there : (seen : Shown) → IsIdleNow start seen a.clock.now → IsIdleNow start seen b.clock.now
  idle-there seen h = subst (IsIdleNow start seen) (sym same.now) h

  abbrev asks-there : (old : SiteView) → AsksSo start old a → AsksSo start old b
  asks-there old h = record {
    may = may-there old h.may;
    idle = idle-there h.may.goes_on.seen h.idle;
    nothing_due = h.nothing_due;
    issue = h.issue;
    least = h.least;
  }

  resend-there : (seen : Shown) → IsResend seen a.clock → IsResend seen b.clock
  resend-there seen r = record {
    issue = r.issue;
    it = r.it;
    waiting = r.waiting;
    near = subst (λ (n : ℕ). n ≤ b.clock.now + 5_000) (sym same.asked) (subst (λ (n : ℕ). a.clock.asked ≤ n + 5_000) (sym same.now) r.near);
    at = r.at;
    due_is = r.due_is;
    early = subst (λ (n : ℕ). n < r.at) (sym same.asked) r.early;
  }

  waits-there : (old : SiteView) → WaitsSo start old a → WaitsSo start old b
  waits-there old (short, why) = (short-there, go why)
    where
      short-there : b.clock.now < b.clock.asked
      short-there = subst (λ (n : ℕ). n < b.clock.asked) (sym same.now) (subst (λ (n : ℕ). a.clock.now < n) (sym same.asked) short)

      go : WaitsFirst start old a ⊎ WaitsInTurn start old a → WaitsFirst start old b ⊎ WaitsInTurn start old b
      go (inl f) = inl (record { none = gains-there 0 old f.none; how = f.how; reads = reads-there f.how f.reads; last = same.asked ∙ f.last })
      go (inr t) = inr (record {
        may = may-there old t.may;
        idle = idle-there t.may.goes_on.seen t.idle;
        what = elim t.what [
          | inl is ↦ inl (is ∙ ap Some (sym same.asked))
          | inr r ↦ inr (resend-there t.may.goes_on.seen r)
        ];
      })

  another-there : ReadsAsAnother start a → ReadsAsAnother start b
  another-there h = record { given = h.given; accepted = h.accepted; begins = subst (BeginsAnother h.given start.run) (sym (same.bytes 0)) h.begins }

  damaged-there : ReadsAsDamaged start a → ReadsAsDamaged start b
  damaged-there h = record {
    given = h.given;
    accepted = h.accepted;
    place = h.place;
    damaged = subst (λ (image : List ℕ). IsDamagedFor h.given start.run image h.place) (sym (same.bytes 0)) h.damaged;
  }

  large-there : ReadsTooLarge start a → ReadsTooLarge start b
  large-there h = record {
    given = h.given;
    accepted = h.accepted;
    large = subst (λ (image : List ℕ). RefusesImage h.given start.run image (refusal.Limit limit.Tasks)) (sym (same.bytes 0)) h.large;
  }

  filter-there : HasDamagedFilter start a → HasDamagedFilter start b
  filter-there h = record {
    given = h.given;
    accepted = h.accepted;
    agent = h.agent;
    of_agent = h.of_agent;
    place = h.place;
    damaged = subst (λ (image : List ℕ). IsDamaged image h.place) (sym (same.bytes h.agent)) h.damaged;
  }

  abbrev used-there : FindsUsed start a → FindsUsed start b
  used-there h = record {
    given = h.given;
    accepted = h.accepted;
    blank = subst (λ (image : List ℕ). IsRecords image []) (sym (same.bytes 0)) h.blank;
    agent = h.agent;
    of_agent = h.of_agent;
    acts = h.acts;
    are = subst (λ (image : List ℕ). IsActs image h.acts) (sym (same.bytes h.agent)) h.are;
    has = h.has;
  }

  first-used-there : FindsFirstUsed start a → FindsFirstUsed start b
  first-used-there h = record {
    used = used-there h.used;
    least = λ lower is lt acts are has. h.least lower is lt acts (subst (λ (image : List ℕ). IsActs image acts) (same.bytes lower) are) has;
  }

  damaged-filter-there : (answer : ℕ) → DamagedFilterSo start a answer → DamagedFilterSo start b answer
  damaged-filter-there answer (inl h) = inl h
  damaged-filter-there answer (inr (inl h)) = inr (inl (h.0, large-there h.1))
  damaged-filter-there answer (inr (inr h)) = inr (inr (h.0, another-there h.1))

  late-there : IsLateSo start a → IsLateSo start b
  late-there l = record {
    how = l.how;
    reads = reads-there l.how l.reads;
    late = subst (λ (n : ℕ). 9_000_000_000_000_000 < n) (sym same.now) l.late;
  }

  reached-there : a.clock.asked ≤ a.clock.now → b.clock.asked ≤ b.clock.now
  reached-there le = let asked = same.asked in let now = same.now in omega (arith, asked, now, le)

  abbrev could-there : (old : SiteView) → CouldAppend start old a → CouldAppend start old b
  could-there old c = record {
    goes_on = reads-there None c.goes_on;
    many = c.many;
    gains = gains-there c.many old c.gains;
    fewer = c.fewer;
    reached = reached-there c.reached;
  }

  due-there : (old : SiteView) → DuePasses start old a → DuePasses start old b
  due-there old d = record { could = could-there old d.could; idle = idle-there d.could.goes_on.seen d.idle; at = d.at; due_is = d.due_is; late = d.late }

  abbrev next-there : (old : SiteView) → NextPasses start old a → NextPasses start old b
  next-there old n = record {
    could = could-there old n.could;
    next = n.next;
    edits = n.edits;
    now = n.now ∙ sym same.now;
    takes = n.takes;
    in_turn = subst (λ (m : ℕ). ComesInTurn start old.link.taken b.link.taken n.could.goes_on.seen m n.next) (sym same.now)
        (subst (λ (t : Option (List (ℕ × Parcel))). ComesInTurn start old.link.taken t n.could.goes_on.seen a.clock.now n.next) (sym same.taken) n.in_turn);
    passes = n.passes;
  }

  act-there : (old : SiteView) → NextActPasses start old a → NextActPasses start old b
  act-there old p = record {
    could = could-there old p.could;
    begun = p.begun;
    parcel = p.parcel;
    is_command = p.is_command;
    taken_last = subst (λ (t : Option (List (ℕ × Parcel))). IsTakenLast p.parcel old.link.taken t) (sym same.taken) p.taken_last;
    acts = p.acts;
    are = subst (λ (image : List ℕ). IsActs image p.acts) (sym (same.bytes p.parcel.agent)) p.are;
    is_new = p.is_new;
    past = subst (λ (n : ℕ). 67_108_864 < length_with p.acts (act_for p.acts p.parcel n)) (sym same.now) p.past;
  }

  hand-there : (old : SiteView) → PassesInHand start old a → PassesInHand start old b
  hand-there old (inl n) = inl (next-there old n.0, n.1)
  hand-there old (inr p) = inr (act-there old p)

  passes-there : (old : SiteView) → PassesIdle start old a → PassesIdle start old b
  passes-there old (inl l) = inl (large-there l)
  passes-there old (inr (inl l)) = inr (inl (late-there l))
  passes-there old (inr (inr p)) = inr (inr (act-there old p))

  past-there : (old : SiteView) → ReadsTooLarge start a ⊎ WouldPassSo start old a → ReadsTooLarge start b ⊎ WouldPassSo start old b
  past-there old (inl l) = inl (large-there l)
  past-there old (inr (inl l)) = inr (inl (late-there l))
  past-there old (inr (inr (inl d))) = inr (inr (inl (due-there old d)))
  past-there old (inr (inr (inr (inl n)))) = inr (inr (inr (inl (next-there old n))))
  past-there old (inr (inr (inr (inr p)))) = inr (inr (inr (inr (act-there old p))))

  no-reply-there : (old : SiteView) → ((r : ReadsSo start None b) → (was : ReadsSo start None a) × (was.seen ≡ r.seen)) → LeavesNoReply start old a → LeavesNoReply start old b
  no-reply-there old back none some r issue read replied =
      let was = back r in
      none some was.0 issue read (subst (λ (s : Shown). IsRepliedLast start s issue read old.link.taken a.link.taken) (sym was.1)
      (subst (λ (t : Option (List (ℕ × Parcel))). IsRepliedLast start r.seen issue read old.link.taken t) same.taken replied))

  status-there : (old : SiteView) (answer : ℕ) → (HasDamagedFilter start b → HasDamagedFilter start a) → ((r : ReadsSo start None b) → (was : ReadsSo start None a) × (was.seen ≡ r.seen))
      → StatusTells start old a answer → StatusTells start old b answer
  status-there old answer whole-back reads-back t = record {
    well = λ e. reads-there (Some true) (t.well e);
    failed = λ e. reads-there (Some false) (t.failed e);
    pauses = λ e. pauses-there old (t.pauses e);
    floods = λ e. (floods-there old (t.floods e).0, no-reply-there old reads-back (t.floods e).1);
    asks = λ e. asks-there old (t.asks e);
    waits = λ e. waits-there old (t.waits e);
    past = λ e. past-there old (t.past e);
    kept = λ one. kept-there old (t.kept one);
    reached = λ one. reached-there (t.reached one);
    left = λ one. leaves-there (t.left one);
    another = λ e. elim (t.another e) [ inl h ↦ inl (another-there h) | inr h ↦ inr (first-used-there h.0, λ d. h.1 (whole-back d)) ];
    damaged = λ e. elim (t.damaged e) [ inl h ↦ inl (damaged-there h) | inr h ↦ inr (filter-there h) ];
  }

pub returns-there : (start : Start) (old a b : SiteView) (answer : ℕ) → Alike a b → ReturnsSo start old a answer → ReturnsSo start old b answer
returns-there start old a b answer same is = record {
  of_status = status-there start a b same old answer (filter-there start b a back) (λ r. (reads-there start b a back None r, refl)) is.of_status;
  of_file = record {
    well = λ r. is.of_file.well (reads-there start b a back (Some true) r);
    failed = λ r. is.of_file.failed (reads-there start b a back (Some false) r);
    goes_on = λ r. is.of_file.goes_on (reads-there start b a back None r);
    pauses = λ p. is.of_file.pauses (pauses-there start b a back old p);
    another = λ h. is.of_file.another (another-there start b a back h);
    damaged = λ h. is.of_file.damaged (damaged-there start b a back h);
    too_large = λ h. is.of_file.too_large (large-there start b a back h);
    filter_damaged = λ h. damaged-filter-there start a b same answer (is.of_file.filter_damaged (filter-there start b a back h));
    used = λ h. is.of_file.used (used-there start b a back h);
  };
  of_turn = record {
    may = λ m. is.of_turn.may (may-there start b a back old m);
    asks = λ h le. elim (is.of_turn.asks (asks-there start b a back old h) (subst (λ (n : ℕ). h.may.goes_on.seen.moment ≤ n) same.now le)) [
      | inl one ↦ inl one
      | inr past ↦ inr (past.0, passes-there start a b same old past.1)
    ];
    moves = λ m some. is.of_turn.moves (may-there start b a back old m) (subst (λ (n : ℕ). enabled_move m.goes_on.seen n ≢ None) same.now some);
    floods = λ f some. elim (is.of_turn.floods (floods-there start b a back old f) some) [ inl h ↦ inl h | inr h ↦ inr (h.0, hand-there start a b same old h.1) ];
    late = λ accepted lt. is.of_turn.late accepted (subst (λ (n : ℕ). 9_000_000_000_000_000 < n) same.now lt);
  };
}
  where
    back : Alike b a
    back = alike-back a b same
