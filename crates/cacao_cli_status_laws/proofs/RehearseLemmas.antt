-- A rehearsal is held on a site of its own, and what came of it is told.
use Rattle.std.proofs.Common.{◌≡◌, ◌⊎◌, inl, inr, ◌∙◌, refl, sym, ap, subst, arith, ℕ, ◌≤◌, true, false, [], ◌∷◌}
use Rattle.std.specs.Prelude.{nat_eq}
use Rattle.std.specs.List.{list_any}
use Rattle.std.proofs.lemmas.Bool.{true≢false}
use Rattle.cacao_site.specs.Counts.{Rose, next_count}
use Rattle.cacao_site_memory.specs.MemorySite.{view_of}
use Rattle.cacao_site.specs.View.{SiteView}
use Rattle.cacao_site_memory.specs.declared.site.MemorySite.{MemorySite}
use Rattle.flow_core_setup.specs.declared.setup_errors.SetupError.TheVariants as setup_error
use Rattle.flow_core_rules.specs.Givens.{Given}
use Rattle.flow_world.specs.Close.{Close}
use Rattle.flow_world.specs.Close.TheVariants as close
use Rattle.flow_world.specs.WorldError.{WorldError}
use Rattle.flow_world.specs.WorldError.TheVariants as refusal
use Rattle.cacao_cli_rehearsal.specs.Books.{rehearsal_text}
use Rattle.cacao_cli_rehearsal.specs.NewSites.{EndsByPlan, MayClose, MayComeOfNew, MayRefuse}
use Rattle.cacao_cli_rehearsal.specs.Plans.{GoesByPlan}
use Rattle.cacao_cli_rehearsal.specs.Rehearsals.{FailsToRehearse, Rehearsed, is_well}
use Rattle.cacao_cli_rehearsal.specs.Settings.{IsAccepted, IsNewSite}
use Rattle.cacao_cli_rehearsal.specs.declared.error.RehearsalError.{RehearsalError}
use Rattle.cacao_cli_rehearsal.specs.declared.error.RehearsalError.TheVariants as rehearsal_error
use Rattle.cacao_cli_rehearsal.specs.declared.summary.Summary.{Summary}
use Rattle.cacao_cli_rehearsal.proofs.Lengths.{text_short}
use Rattle.flow_engine_reports.proofs.AcceptLemmas.{not-accepted}
use Rattle.cacao_cli_ends.specs.Ends.{End, accepted, agrees, asked_for, bind_refused, damaged, disagrees, disk_failed, peers_failed, done, ended_failed, ended_ok, flooded, no_memory, no_such_file, not_readable, not_understood, other_book, other_run, past, paused, refused, rehearsed, run_used, shelf_failed, status_of, text_of, unsaid, waiting}
use Rattle.cacao_cli_status_laws.specs.Exact.{HasRehearsed, IsRehearsed}
use Rattle.cacao_cli_ends.specs.Comes.{IsOneOf, run_rehearsal_statuses}
use Rattle.cacao_cli_session_laws.specs.Holding.{close_end, error_end}
use Rattle.cacao_cli_ends.specs.Lines.{Tells}
use Rattle.cacao_cli_status_laws.specs.Rehearsing.{MayEndSo, EndsRun, IsBrokenRehearsal, RehearsalTo, Rehearses, TellsRehearsal, failed_end}
use Rattle.cacao_cli_ends.proofs.EndCases.{nine-or-not}
use Rattle.cacao_cli_ends.proofs.StatusLists.{not-among, session_statuses}
use Rattle.cacao_cli_session_laws.proofs.HoldLemmas.{close-status, error-done, error-status}
use Rattle.cacao_cli_ends.proofs.LineLemmas.{IsCutOff, tells-status}
use Rattle.cacao_cli_ends.proofs.UnsaidLemmas.{last-said, last-unsaid}

-- ---- what came of it

pub has-summary : (positions : ℕ) (site left : MemorySite) (summary : Summary) → IsNewSite site → GoesByPlan left → Rehearsed positions (view_of site) (view_of left) summary
    → TellsRehearsal positions (rehearsed positions summary.records summary.acts summary.rules)
has-summary positions site left summary new goes h = inr (inl (record {
  site = site;
  is_new = new;
  left = left;
  by_plan = goes;
  short = h.short;
  given = h.given;
  accepted = h.accepted;
  runs = inl (record { summary = summary; well = h.runs; ends = refl });
  may = tt;
}))

close-may : (how : Close) → is_well how ≡ false → MayClose how → MayEndSo (close_end how)
close-may (close.Ended true) other may = absurd (true≢false other)
close-may (close.Ended false) other may = tt
close-may close.Paused other may = may
close-may (close.Waiting moment) other may = may
close-may close.Flooded other may = may
close-may (close.Asked issue) other may = may

error-may : (why : WorldError) → MayRefuse why → MayEndSo (error_end why)
error-may refusal.Disk may = may
error-may refusal.Say may = may
error-may refusal.Memory may = tt
error-may (refusal.Limit what) may = tt
error-may (refusal.OtherRun held asked) may = may
error-may (refusal.OtherBook index) may = may
error-may (refusal.RunUsed agent) may = may
error-may (refusal.Damaged file place) may = may

pub has-failed : (positions : ℕ) (site left : MemorySite) (why : RehearsalError) → positions ≤ 1000 → IsNewSite site → MayComeOfNew why → EndsByPlan left why → FailsToRehearse positions (view_of site) (view_of left) why → TellsRehearsal positions (failed_end why)
has-failed positions site left rehearsal_error.TooLong few new may goes h = absurd (omega (arith, h.long, text_short positions few))
has-failed positions site left (rehearsal_error.Broken broken) few new may goes h = inl (broken, (h.short, h.breaks), refl)
has-failed positions site left (rehearsal_error.Closed how) few new may goes h = inr (inl (record {
  site = site;
  is_new = new;
  left = left;
  by_plan = goes;
  short = h.short;
  given = h.given;
  accepted = h.accepted;
  runs = inr (inl (record { how = how; closes = h.fails; ends = refl }));
  may = close-may how h.fails.other may;
}))
has-failed positions site left (rehearsal_error.Refused why) few new may goes h = inr (inl (record {
  site = site;
  is_new = new;
  left = left;
  by_plan = goes;
  short = h.short;
  given = h.given;
  accepted = h.accepted;
  runs = inr (inr (record { why = why; refuses = h.fails; ends = refl }));
  may = error-may why may;
}))
has-failed positions site left rehearsal_error.Memory few new may goes h = inr (inr refl)

-- ---- which status comes

tells-rehearsed : (positions : ℕ) (last : End) (n : ℕ) → TellsRehearsal positions last → n ≡ status_of last → HasRehearsed positions n ⊎ IsCutOff n
tells-rehearsed positions last n (inl h) e = inl (inl ((h.0, h.1), e ∙ ap status_of h.2))
tells-rehearsed positions last n (inr (inl h)) e = inl (inr (record { last = last; came = h; is = e }))
tells-rehearsed positions last n (inr (inr is)) e = inr (inr (inl (e ∙ ap status_of is)))

pub rehearses-comes : (positions : ℕ) (old mid new : SiteView) (last : End) (answer : ℕ) → Rehearses positions old mid last → Tells last mid new answer → HasRehearsed positions answer ⊎ IsCutOff answer
rehearses-comes positions old mid new last answer h tells = go (tells-status last mid new answer tells)
  where
    go : (answer ≡ status_of last) ⊎ IsCutOff answer → HasRehearsed positions answer ⊎ IsCutOff answer
    go (inl e) = tells-rehearsed positions last answer h.tells e
    go (inr c) = inr c

-- a run has the status of a session
pub run-listed : (positions : ℕ) (given : Given) (old new : SiteView) (last : End) → EndsRun positions given old new last → IsOneOf (status_of last) session_statuses
run-listed positions given old new last (inl h) = subst (λ (e : End). IsOneOf (status_of e) session_statuses) (sym h.ends) (inl refl)
run-listed positions given old new last (inr (inl h)) = subst (λ (e : End). IsOneOf (status_of e) session_statuses) (sym h.ends) (close-status h.how)
run-listed positions given old new last (inr (inr h)) = subst (λ (e : End). IsOneOf (status_of e) session_statuses) (sym h.ends) (error-status h.why)

pub rehearsed-listed : (positions : ℕ) (n : ℕ) → IsRehearsed positions n → IsOneOf n session_statuses
rehearsed-listed positions n h = subst (λ (m : ℕ). IsOneOf m session_statuses) (sym h.is) (run-listed positions h.came.given (view_of h.came.site) (view_of h.came.left) h.last h.came.runs)

-- and only some of them
may-listed : (last : End) → MayEndSo last → IsOneOf (status_of last) run_rehearsal_statuses
may-listed (rehearsed positions records acts rules) may = inl refl
may-listed ended_failed may = inr (inl refl)
may-listed no_memory may = inr (inr (inr (inl refl)))
may-listed (past limit) may = inr (inr (inr (inr (inl refl))))
may-listed done may = absurd may
may-listed accepted may = absurd may
may-listed (agrees records acts) may = absurd may
may-listed (disagrees file place) may = absurd may
may-listed (refused broken) may = absurd may
may-listed (bind_refused rule) may = absurd may
may-listed ended_ok may = absurd may
may-listed paused may = absurd may
may-listed (waiting moment) may = absurd may
may-listed flooded may = absurd may
may-listed (asked_for issue) may = absurd may
may-listed (other_run held asked) may = absurd may
may-listed (other_book index) may = absurd may
may-listed (run_used agent) may = absurd may
may-listed not_understood may = absurd may
may-listed (shelf_failed name) may = absurd may
may-listed (no_such_file name) may = absurd may
may-listed (not_readable name reason) may = absurd may
may-listed (damaged file place) may = absurd may
may-listed peers_failed may = absurd may
may-listed disk_failed may = absurd may
may-listed unsaid may = absurd may

pub ran-listed : (positions : ℕ) (n : ℕ) → IsRehearsed positions n → IsOneOf n run_rehearsal_statuses
ran-listed positions n h = subst (λ (m : ℕ). IsOneOf m run_rehearsal_statuses) (sym h.is) (may-listed h.last h.came.may)

pub rehearsed-other : (positions n m : ℕ) → HasRehearsed positions n → n ≡ m → (1 ≡ m → ⊥) → list_any (nat_eq m) session_statuses ≡ false → ⊥
rehearsed-other positions n m (inl h) e b none = b (sym h.1 ∙ e)
rehearsed-other positions n m (inr h) e b none = not-among m session_statuses none (subst (λ (k : ℕ). IsOneOf k session_statuses) e (rehearsed-listed positions n h))

not-done : (how : Close) → is_well how ≡ false → status_of (close_end how) ≡ 0 → ⊥
not-done (close.Ended true) other e = true≢false other
not-done (close.Ended false) other e = omega (arith, e)
not-done close.Paused other e = omega (arith, e)
not-done (close.Waiting moment) other e = omega (arith, e)
not-done close.Flooded other e = omega (arith, e)
not-done (close.Asked issue) other e = omega (arith, e)

-- what was counted of a rehearsal
abbrev pub Counted : ℕ → Type 0
Counted positions = (records : ℕ) × (acts : ℕ) × (rules : ℕ) × RehearsalTo positions (rehearsed positions records acts rules)

pub came-counted : (positions : ℕ) (last : End) → RehearsalTo positions last → status_of last ≡ 0 → Counted positions
came-counted positions last h zero = go h.runs
  where
    go : EndsRun positions h.given (view_of h.site) (view_of h.left) last → Counted positions
    go (inl r) = (r.summary.records, r.summary.acts, r.summary.rules, subst (RehearsalTo positions) r.ends h)
    go (inr (inl r)) = absurd (not-done r.how r.closes.other (sym (ap status_of r.ends) ∙ zero))
    go (inr (inr r)) = absurd (error-done r.why (sym (ap status_of r.ends) ∙ zero))

-- ---- no two of the causes hold

broken-accepted : (positions : ℕ) → IsBrokenRehearsal positions → (given : Given) → IsAccepted (rehearsal_text positions) given → ⊥
broken-accepted positions h given a = not-accepted (rehearsal_text positions ∷ []) [] (setup_error.Broken h.0) h.1.1 (λ e. no-broken e) given a
  where
    no-broken : setup_error.Broken h.0 ≡ setup_error.Memory → ⊥
    no-broken e = cc

module _ (positions n : ℕ) where
  pub rehearsed-broken : HasRehearsed positions n → n ≡ 1 → IsBrokenRehearsal positions
  rehearsed-broken (inl h) e = h.0
  rehearsed-broken (inr h) e = absurd (not-among 1 session_statuses refl (subst (λ (k : ℕ). IsOneOf k session_statuses) e (rehearsed-listed positions n h)))

  pub broken-rehearsed : HasRehearsed positions n → IsBrokenRehearsal positions → n ≡ 1
  broken-rehearsed (inl h) b = h.1
  broken-rehearsed (inr h) b = absurd (broken-accepted positions b h.came.given h.came.accepted)

  -- the status of a playbook that ran, wherever else it may run
  pub rehearsal-listed : HasRehearsed positions n → (last : End) → RehearsalTo positions last → IsOneOf n run_rehearsal_statuses
  rehearsal-listed (inl h) last r = absurd (broken-accepted positions h.0 r.given r.accepted)
  rehearsal-listed (inr h) last r = ran-listed positions n h

  pub rehearsed-ran : HasRehearsed positions n → (n ≡ 1 → ⊥) → IsRehearsed positions n
  rehearsed-ran (inl h) b = absurd (b h.1)
  rehearsed-ran (inr h) b = h

-- ---- the counts

pub rehearses-disk : (positions : ℕ) (old mid : SiteView) (last : End) → Rehearses positions old mid last → mid.disk.faults ≡ old.disk.faults
rehearses-disk positions old mid last h = ap (λ (s : SiteView). s.disk.faults) h.same

pub rehearses-said : (positions : ℕ) (old mid new : SiteView) (last : End) (answer : ℕ) → Rehearses positions old mid last → Tells last mid new answer → (answer ≡ 9 → ⊥) → new.counts.unsaid ≡ old.counts.unsaid
rehearses-said positions old mid new last answer h tells unlike = last-said last (text_of last) mid new answer tells unlike ∙ ap (λ (s : SiteView). s.counts.unsaid) h.same

rose-next : (n m : ℕ) → m ≡ next_count n → Rose n m
rose-next n m e = omega (arith, e)

-- what is told of a rehearsal is not that a line could not be said
tells-no-nine : (positions : ℕ) (last : End) → TellsRehearsal positions last → status_of last ≡ 9 → ⊥
tells-no-nine positions last (inl h) e = let k : status_of last ≡ 1 = ap status_of h.2 in omega (arith, e, k)
tells-no-nine positions last (inr (inl h)) e = elim (nine-or-not last) [ inl is ↦ subst MayEndSo is h.may | inr other ↦ other e ]
tells-no-nine positions last (inr (inr is)) e = let k : status_of last ≡ 10 = ap status_of is in omega (arith, e, k)

pub rehearses-unsaid : (positions : ℕ) (old mid new : SiteView) (last : End) (answer : ℕ) → Rehearses positions old mid last → Tells last mid new answer → answer ≡ 9 → Rose old.counts.unsaid new.counts.unsaid
rehearses-unsaid positions old mid new last answer h tells e =
    rose-next old.counts.unsaid new.counts.unsaid (last-unsaid last (text_of last) mid new answer (tells-no-nine positions last h.tells) tells e ∙ ap (λ (s : SiteView). next_count s.counts.unsaid) h.same)
