-- A file of the disk is opened, and something is said of it.
use Rattle.std.proofs.Common.{◌≡◌, ◌⊎◌, ◌∙◌, inl, inr, refl, sym, ap, subst, arith, ℕ, ◌+◌, ◌/◌, ◌≤◌, ◌==◌, Bool, true, false, List, length, Option, Some, None}
use Rattle.std.specs.Prelude.{IfSome, IsTrue}
use Rattle.cacao_site.specs.DiskCalls.{EachBeat, IsLeft, KeepsDisk}
use Rattle.cacao_site.specs.View.{SiteView, device_calls}
use Rattle.cacao_site.proofs.Beats.{each-keeps, each-stays, since-start}
use Rattle.cacao_cli_words.specs.Words.{Text}
use Rattle.cacao_cli_ends.specs.Ends.{End, status_of, no_memory, unsaid}
use Rattle.cacao_cli_ends.specs.Stays.{WritesNothing}
use Rattle.cacao_cli_ends.specs.Lines.{SaysWork, Tells}
use Rattle.cacao_cli_looks.specs.Openings.{HoldsFilter, IsDamagedFilter, Opens}
use Rattle.cacao_cli_ends.proofs.EndLemmas.{no-more}
use Rattle.cacao_cli_ends.proofs.LineLemmas.{IsCutOff, tells-status}
use Rattle.cacao_cli_ends.proofs.SayingLemmas.{SaysSome, Tallies, keeps-refl, some-all, some-failed, some-same, some-trans, tells-some}

-- ---- what is said changes the disk and the link no more than that

pub work-some : (lines : List Text) (end : End) (old mid new : SiteView) (last : End) (answer : ℕ) → SaysWork lines end old mid last → Tells last mid new answer → SaysSome 1 old new
work-some lines end old mid new last answer (inl h) tells = some-trans 0 1 old mid new (some-all lines old mid h.says) (tells-some last mid new answer tells)
work-some lines end old mid new last answer (inr (inl h)) tells =
    subst (SaysSome 1 old) (sym (no-more last unsaid mid new answer h.ends refl tells).0) (some-trans 0 1 old h.between mid (some-all h.front old h.between h.says) (some-failed h.between mid h.fails))
work-some lines end old mid new last answer (inr (inr h)) tells = some-same 1 old new ((no-more last no_memory mid new answer h.ends refl tells).0 ∙ h.same)

same-file : (n m : ℕ) → true ≡ (n == m) → n ≡ m
same-file n m e = grind arith

other-file : (n m : ℕ) → false ≡ (n == m) → n ≡ m → ⊥
other-file n m e f = grind arith

pub each-file : (file : ℕ) (old between new : SiteView) → Opens file old between → KeepsDisk between.disk new.disk → (other : ℕ) → EachBeat other old.disk new.disk (IsLeft old.disk other old.disk.beat)
each-file file old between new opens keeps other = go (other == file) refl
  where
    go : (b : Bool) → b ≡ (other == file) → EachBeat other old.disk new.disk (IsLeft old.disk other old.disk.beat)
    go true e = each-keeps (subst (λ (f : ℕ). EachBeat f old.disk between.disk (IsLeft old.disk f old.disk.beat)) (sym (same-file other file e)) opens.only.each) keeps
    go false e = each-keeps (each-stays (since-start old.disk other) opens.only.each.goes_on (opens.only.others other (other-file other file e))) keeps

few-calls : (old mid new q : ℕ) (a b : Option (List (ℕ × Text))) → mid ≤ old + 3 + q → Tallies 1 mid new a b → IfSome a (λ (before : List (ℕ × Text)). IfSome b (λ (after : List (ℕ × Text)). new + length before ≤ old + length after + 4 + q))
few-calls old mid new q None b le h = tt
few-calls old mid new q (Some a) None le h = tt
few-calls old mid new q (Some a) (Some b) le h = omega (arith, le, h)

pub nothing-written : (file : ℕ) (old between new : SiteView) → Opens file old between → SaysSome 1 between new → WritesNothing file old new
nothing-written file old between new opens says = record {
  reads_only = each-file file old between new opens says.disk;
  written = omega (arith, opens.written, says.disk.written);
  link = record {
    puts = says.link.puts ∙ ap (λ l. l.puts) opens.only.rest.link;
    taken = says.link.taken ∙ ap (λ l. l.taken) opens.only.rest.link;
    empty_takes = says.link.empty_takes ∙ ap (λ l. l.empty_takes) opens.only.rest.link;
    pending = says.link.pending ∙ ap (λ l. l.pending) opens.only.rest.link;
  };
  time = record {
    now = says.time.now ∙ ap (λ c. c.now) opens.only.rest.clock;
    asked = says.time.asked ∙ ap (λ c. c.asked) opens.only.rest.clock;
    furthest = says.time.furthest ∙ ap (λ c. c.furthest) opens.only.rest.clock;
    shorts = says.time.shorts ∙ ap (λ c. c.shorts) opens.only.rest.clock;
  };
  mishaps = says.mishaps ∙ ap (λ c. c.mishaps) opens.only.rest.counts;
  calls = λ told. few-calls (device_calls old) (device_calls between) (device_calls new) (length (new.disk.reads file) / 4096) old.link.said new.link.said
      (subst (λ (bytes : List ℕ). device_calls between ≤ device_calls old + 3 + length bytes / 4096) (sym (says.disk.stays file).reads)
      (omega (arith, opens.calls told, ap (λ c. c.says) opens.only.rest.counts)))
      (subst (λ (said : Option (List (ℕ × Text))). Tallies 1 (device_calls between) (device_calls new) said new.link.said) (ap (λ l. l.said) opens.only.rest.link) says.calls);
  disk_calls = λ told. subst (λ (bytes : List ℕ). new.disk.calls ≤ old.disk.calls + 3 + length bytes / 4096) (sym (says.disk.stays file).reads)
      (omega (arith, opens.calls told, says.disk_calls));
}

-- nothing was opened
pub opens-refl : (file : ℕ) (site : SiteView) → Opens file site site
opens-refl file site = record {
  only = record { each = since-start site.disk file; others = λ other ne. (keeps-refl site.disk).stays other; rest = record { link = refl; clock = refl; counts = refl } };
  calls = λ told. omega arith;
  written = omega arith;
}

-- ---- the status

-- what may come of the opening of a filter
abbrev pub ComesOpened : ℕ → SiteView → SiteView → ℕ → Type 0
ComesOpened agent old new n =
    (((IsTrue old.disk.told → HoldsFilter agent new) × (n ≡ 0)) ⊎ ((IsTrue old.disk.told → IsDamagedFilter agent new) × (n ≡ 13))) ⊎ (n ≡ 8)

pub ended : (end last : End) (mid new : SiteView) (answer : ℕ) → last ≡ end → Tells last mid new answer → (answer ≡ status_of end) ⊎ IsCutOff answer
ended end last mid new answer is tells = subst (λ (e : End). (answer ≡ status_of e) ⊎ IsCutOff answer) is (tells-status last mid new answer tells)

-- ---- the counts

pub cut-eight : (answer : ℕ) → IsCutOff answer → answer ≡ 8 → ⊥
cut-eight answer (inl f) e = omega (arith, e, f)
cut-eight answer (inr (inl f)) e = omega (arith, e, f)
cut-eight answer (inr (inr f)) e = f

pub not-eight : (end last : End) (mid new : SiteView) (answer : ℕ) → last ≡ end → (status_of end ≡ 8 → ⊥) → Tells last mid new answer → answer ≡ 8 → ⊥
not-eight end last mid new answer is other tells e = go (ended end last mid new answer is tells)
  where
    go : (answer ≡ status_of end) ⊎ IsCutOff answer → ⊥
    go (inl f) = other (sym f ∙ e)
    go (inr c) = cut-eight answer c e

pub opened-unsaid : (file : ℕ) (old mid : SiteView) → Opens file old mid → mid.counts.unsaid ≡ old.counts.unsaid
opened-unsaid file old mid opens = ap (λ c. c.unsaid) opens.only.rest.counts

pub not-nine : (end last : End) → last ≡ end → (status_of end ≡ 9 → ⊥) → status_of last ≡ 9 → ⊥
not-nine end last is other e = other (sym (ap status_of is) ∙ e)
