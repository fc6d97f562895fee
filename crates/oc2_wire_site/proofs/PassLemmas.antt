-- Lines that are passed over, one after another.
use Rattle.std.proofs.Common.{◌≡◌, ◌∙◌, ◌<◌, ◌≤◌, ℕ, ◌+◌, inl, inr, Bool, false, List, [], ◌∷◌, ◌++◌, length, Option, Some, None, refl, ap, sym, subst, arith, length-append}
use Rattle.std.specs.Prelude.{All}
use Rattle.std.proofs.lemmas.List.{append-nil, append_assoc}
use Rattle.std.proofs.lemmas.List.Elements.{All-append, All-cons, All-nil}
use Rattle.std.proofs.lemmas.Option.{none-some, same_Some}
use Rattle.cacao_site.specs.Counts.{next_count}
use Rattle.cacao_site.specs.LinkCalls.{GainsAll}
use Rattle.cacao_site.specs.declared.parcel.Parcel.{Parcel}
use Rattle.oc2_wire_link.specs.Links.{LinkView}
use Rattle.oc2_wire_lines.specs.Lines.{IsOther, Reads, carries, passes, Spells, nothing_line}
use Rattle.oc2_wire_site.specs.LineLinks.{Answers, BreaksFirst, BreaksOver, FailsToSend, LinesView, ReadsLines, ReadsOne, SendsAll, TakesCommand, most_passed, nothings}
use Rattle.oc2_wire_site.specs.LineSteps.{BreaksSoon, PassesOne}
use Rattle.oc2_wire_site.specs.declared.link_state.LinkState.TheVariants as state
use Rattle.oc2_wire_site.proofs.ByteLemmas.{gains_from, gains_none, gains_on, gains_to}
use Rattle.oc2_wire_site.proofs.LineLemmas.{nothings-append, reads_none, reads_then}

is_other : (back : Bool) (line : List ℕ) → Reads back line None → IsOther back line
is_other back line (passes other) = other

is_that : (back : Bool) (line : List ℕ) (taken : Option Parcel) → Reads back line taken → (parcel : Parcel) → taken ≡ Some parcel → Spells line parcel × (parcel.back ≡ back)
is_that back line (Some _) (carries held spells same) parcel e = subst (λ (p : Parcel). Spells line p × (p.back ≡ back)) (same_Some held parcel e) (spells, same)
is_that back line None (passes other) parcel e = absurd (none-some parcel e)

-- ---- one line

all_one : (P : List ℕ → Type 0) (line : List ℕ) → P line → All P (line ∷ [])
all_one P line holds = All-cons P line [] holds (All-nil P)

pub passes_one : (old mid new : LinesView) → ReadsOne false None old mid → SendsAll nothing_line mid new → PassesOne old new
passes_one old mid new reads sends = record {
  line = reads.line;
  other = is_other false reads.line reads.reads;
  lines = reads_then (reads.line ∷ []) [] old mid new reads.lines (reads_none mid new sends.sends.received sends.sends.to_come sends.keeps.unread);
  sent = gains_from old.link.sent mid.link.sent new.link.sent nothing_line reads.sent sends.sends.sent;
  faults = sends.faults ∙ reads.faults;
  passed = sends.keeps.passed ∙ reads.passed;
  whole = sends.whole;
}

-- the link broke at the answer
pub breaks_at_answer : (old mid new : LinesView) → ReadsOne false None old mid → FailsToSend nothing_line mid new → BreaksSoon old new
breaks_at_answer old mid new reads fails =
    let front = fails.sends in record {
      over = reads.line ∷ [];
      most = omega arith;
      passes = record {
        each = all_one (IsOther false) reads.line (is_other false reads.line reads.reads);
        answers = record {
          front = front.front;
          behind = front.behind;
          is = front.is;
          sent = gains_from old.link.sent mid.link.sent new.link.sent front.front reads.sent front.sends.sent;
          most = omega (arith, ap length front.is, length-append front.front front.behind);
          all = λ ne. absurd (ne fails.failed);
        };
        passed = fails.keeps.passed ∙ reads.passed;
        faults = record { failed = λ e. fails.faults ∙ ap next_count reads.faults; faultless = λ ne. absurd (ne fails.failed) };
      };
      lines = reads_then (reads.line ∷ []) [] old mid new reads.lines (reads_none mid new front.sends.received front.sends.to_come fails.keeps.unread);
      broken = λ e. absurd (cc (fails.failed));
      not_flooded = λ e. absurd (cc (fails.failed));
      answered = λ one. (fails.failed, front.some);
      no_line = λ e none. absurd (omega (arith, ap length none, front.some));
    }

-- or before there was a line
pub breaks_soon : (old new : LinesView) → BreaksFirst old new → BreaksSoon old new
breaks_soon old new first = record {
  over = [];
  most = omega arith;
  passes = record {
    each = All-nil (IsOther false);
    answers = record {
      front = [];
      behind = [];
      is = refl;
      sent = gains_to old.link.sent old.link.sent new.link.sent [] (gains_none old.link.sent) first.sent;
      most = omega arith;
      all = λ ne. refl;
    };
    passed = omega (arith, first.passed);
    faults = first.faults;
  };
  lines = first.lines;
  broken = first.broken;
  not_flooded = first.not_flooded;
  answered = λ one. absurd (omega (arith, one));
  no_line = λ e none. first.no_line e;
}

-- ---- so many lines

-- so many lines were passed over so far, and the link is whole
pub record PassedSo (count : ℕ) (old new : LinesView) : Type 0 where
  pub over : List (List ℕ)
  pub many : length over ≡ count
  pub each : All (IsOther false) over
  pub lines : ReadsLines over old new
  pub sent : GainsAll old.link.sent (nothings over) new.link.sent
  pub faults : new.link.faults ≡ old.link.faults
  pub passed : new.passed ≡ old.passed + count
  pub whole : new.state ≡ state.Whole

pub passed_none : (lines : LinesView) → lines.state ≡ state.Whole → PassedSo 0 lines lines
passed_none lines whole = record {
  over = [];
  many = refl;
  each = All-nil (IsOther false);
  lines = reads_none lines lines refl refl refl;
  sent = gains_none lines.link.sent;
  faults = refl;
  passed = omega arith;
  whole = whole;
}

pub passed_more : (count : ℕ) (old mid new : LinesView) → PassedSo count old mid → PassesOne mid new → PassedSo (count + 1) old new
passed_more count old mid new so_far one =
    let more : List (List ℕ) = one.line ∷ [] in
    let said : nothings (so_far.over ++ more) ≡ nothings so_far.over ++ nothing_line = nothings-append so_far.over more in
    record {
      over = so_far.over ++ more;
      many = omega (arith, length-append so_far.over more, so_far.many);
      each = All-append (IsOther false) so_far.over more so_far.each (all_one (IsOther false) one.line one.other);
      lines = reads_then so_far.over more old mid new so_far.lines one.lines;
      sent = subst (λ (l : List ℕ). GainsAll old.link.sent l new.link.sent) (sym said) (gains_on old.link.sent mid.link.sent new.link.sent (nothings so_far.over) nothing_line so_far.sent one.sent);
      faults = one.faults ∙ so_far.faults;
      passed = omega (arith, one.passed, so_far.passed);
      whole = one.whole;
    }

-- all of them were answered
answers_so : (count : ℕ) (old mid new : LinesView) (so_far : PassedSo count old mid) → new.link.sent ≡ mid.link.sent → Answers so_far.over old new
answers_so count old mid new so_far sent = record {
  front = nothings so_far.over;
  behind = [];
  is = sym (append-nil (nothings so_far.over));
  sent = gains_to old.link.sent mid.link.sent new.link.sent (nothings so_far.over) so_far.sent sent;
  most = omega arith;
  all = λ ne. refl;
}

pub takes_command : (count : ℕ) (parcel : Parcel) (old mid new : LinesView) → count < most_passed → PassedSo count old mid → ReadsOne false (Some parcel) mid new → TakesCommand parcel old new
takes_command count parcel old mid new few so_far reads =
    let that = is_that false reads.line (Some parcel) reads.reads parcel refl in record {
      over = so_far.over;
      line = reads.line;
      few = omega (arith, few, so_far.many);
      passes = record {
        each = so_far.each;
        answers = answers_so count old mid new so_far reads.sent;
        passed = omega (arith, reads.passed, so_far.passed, so_far.many);
        faults = record { failed = λ e. absurd (cc (reads.whole)); faultless = λ ne. reads.faults ∙ so_far.faults };
      };
      spells = that.0;
      command = that.1;
      lines = reads_then so_far.over (reads.line ∷ []) old mid new so_far.lines reads.lines;
      whole = reads.whole;
    }

pub breaks_over : (count : ℕ) (old mid new : LinesView) → count < most_passed → PassedSo count old mid → BreaksSoon mid new → BreaksOver old new
breaks_over count old mid new few so_far soon =
    let all : List (List ℕ) = so_far.over ++ soon.over in
    let tail = soon.passes.answers in
    let said : nothings all ≡ (nothings so_far.over ++ tail.front) ++ tail.behind =
    nothings-append so_far.over soon.over ∙ ap (λ (l : List ℕ). nothings so_far.over ++ l) tail.is ∙ sym (append_assoc (nothings so_far.over) tail.front tail.behind) in
    record {
      over = all;
      few = omega (arith, length-append so_far.over soon.over, so_far.many, soon.most, few);
      passes = record {
        each = All-append (IsOther false) so_far.over soon.over so_far.each soon.passes.each;
        answers = record {
          front = nothings so_far.over ++ tail.front;
          behind = tail.behind;
          is = said;
          sent = gains_on old.link.sent mid.link.sent new.link.sent (nothings so_far.over) tail.front so_far.sent tail.sent;
          most = tail.most;
          all = tail.all;
        };
        passed = omega (arith, soon.passes.passed, so_far.passed, so_far.many, length-append so_far.over soon.over);
        faults = record {
          failed = λ e. soon.passes.faults.failed e ∙ ap next_count so_far.faults;
          faultless = λ ne. soon.passes.faults.faultless ne ∙ so_far.faults;
        };
      };
      lines = reads_then so_far.over soon.over old mid new so_far.lines soon.lines;
      broken = soon.broken;
      flooded = λ e. absurd (soon.not_flooded e);
      many = λ same. inr (soon.answered (omega (arith, length-append so_far.over soon.over, so_far.many, soon.most, few, same)));
      no_line = soon.no_line;
    }

-- as many as one take passes over
pub breaks_flooded : (count : ℕ) (old mid new : LinesView) → most_passed ≤ count → count ≤ most_passed → PassedSo count old mid → new.link ≡ mid.link → new.unread ≡ mid.unread → new.passed ≡ mid.passed → new.state ≡ state.PassedOver
    → BreaksOver old new
breaks_flooded count old mid new all few so_far link unread passed flooded =
    let last : ReadsLines [] mid new = reads_none mid new (ap (λ (l : LinkView). l.received) link) (ap (λ (l : LinkView). l.to_come) link) unread in
    let none : so_far.over ++ [] ≡ so_far.over = append-nil so_far.over in
    record {
      over = so_far.over;
      few = omega (arith, so_far.many, few);
      passes = record {
        each = so_far.each;
        answers = answers_so count old mid new so_far (ap (λ (l : LinkView). l.sent) link);
        passed = omega (arith, passed, so_far.passed, so_far.many);
        faults = record { failed = λ e. absurd (cc (flooded)); faultless = λ ne. ap (λ (l : LinkView). l.faults) link ∙ so_far.faults };
      };
      lines = subst (λ (l : List (List ℕ)). ReadsLines l old new) none (reads_then so_far.over [] old mid new so_far.lines last);
      broken = λ e. absurd (cc (flooded));
      flooded = λ e. omega (arith, so_far.many, all, few);
      many = λ same. inl flooded;
      no_line = λ e none. absurd (cc (flooded, e));
    }
