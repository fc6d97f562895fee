-- Lines that are read, one after another.
use Rattle.std.proofs.Common.{◌≡◌, ◌≢◌, ◌∙◌, ◌<◌, ◌≤◌, ℕ, ◌+◌, inl, inr, Bool, List, [], ◌∷◌, ◌++◌, length, take, drop, Option, refl, ap, sym, subst, arith}
use Rattle.std.specs.Prelude.{Contains}
use Rattle.std.proofs.lemmas.List.{append-nil, append_assoc, length-take-le}
use Rattle.std.proofs.lemmas.List.Elements.{Contains-append_cases, Contains-push_cases}
use Rattle.cacao_site.specs.declared.parcel.Parcel.{Parcel}
use Rattle.oc2_wire_link.specs.Links.{LinkView}
use Rattle.oc2_wire_lines.specs.Lines.{IsOneLine, Reads, joined, most_line}
use Rattle.oc2_wire_site.specs.LineLinks.{BreaksFirst, CountsFaults, HasNoLine, IsLineLink, LinesView, ReadsLines, ReadsOne, lines_view, nothings, passed_after}
use Rattle.oc2_wire_site.specs.LineSteps.{Fills, IsFirstLine, IsStop}
use Rattle.oc2_wire_site.specs.declared.link_state.LinkState.{LinkState}
use Rattle.oc2_wire_site.specs.declared.link_state.LinkState.TheVariants as state
use Rattle.oc2_wire_site.proofs.ByteLemmas.{comes_on, comes_same, gains_on, gains_same}

-- ---- lines in a row

none_among : (line : List ℕ) → Contains [] line → ⊥
none_among line has = absurd (omega (arith, has.1))

only_one : (line other : List ℕ) → Contains (line ∷ []) other → line ≡ other
only_one line other has = elim (Contains-push_cases [] line other has) [
  | inl none ↦ absurd (none_among other none)
  | inr same ↦ same
]

joined-append : (a b : List (List ℕ)) → joined (a ++ b) ≡ joined a ++ joined b
joined-append [] b = refl
joined-append (line ∷ a) b = ap (λ (l : List ℕ). line ++ (10 ∷ l)) (joined-append a b) ∙ sym (append_assoc line (10 ∷ joined a) (joined b))

pub nothings-append : (a b : List (List ℕ)) → nothings (a ++ b) ≡ nothings a ++ nothings b
nothings-append [] b = refl
nothings-append (line ∷ a) b = ap (λ (l : List ℕ). 110 ∷ (10 ∷ l)) (nothings-append a b)

pub reads_none : (old new : LinesView) → new.link.received ≡ old.link.received → new.link.to_come ≡ old.link.to_come → new.unread ≡ old.unread → ReadsLines [] old new
reads_none old new received to_come unread = record {
  came = [];
  received = gains_same old.link.received new.link.received received;
  to_come = comes_same old.link.to_come new.link.to_come to_come;
  are = record { is = append-nil old.unread ∙ sym unread; each = λ line has. absurd (none_among line has) };
}

fills_lines : (old new : LinkView) (was is : List ℕ) (p q : ℕ) (s t : LinkState) → Fills old new was is → ReadsLines [] (lines_view old was p s) (lines_view new is q t)
fills_lines old new was is p q s t fills = record {
  came = fills.came;
  received = fills.received;
  to_come = fills.to_come;
  are = record { is = sym fills.unread; each = λ line has. absurd (none_among line has) };
}

pub reads_then : (a b : List (List ℕ)) (old mid new : LinesView) → ReadsLines a old mid → ReadsLines b mid new → ReadsLines (a ++ b) old new
reads_then a b old mid new first second =
    let whole : old.unread ++ (first.came ++ second.came) ≡ joined (a ++ b) ++ new.unread =
    sym (append_assoc old.unread first.came second.came) ∙ ap (λ (l : List ℕ). l ++ second.came) first.are.is
    ∙ append_assoc (joined a) mid.unread second.came ∙ ap (λ (l : List ℕ). joined a ++ l) second.are.is
    ∙ sym (append_assoc (joined a) (joined b) new.unread) ∙ ap (λ (l : List ℕ). l ++ new.unread) (sym (joined-append a b)) in
    record {
      came = first.came ++ second.came;
      received = gains_on old.link.received mid.link.received new.link.received first.came second.came first.received second.received;
      to_come = comes_on old.link.to_come mid.link.to_come new.link.to_come first.came second.came first.to_come second.to_come;
      are = record {
        is = whole;
        each = λ line has. elim (Contains-append_cases a b line has) [ inl one ↦ first.are.each line one | inr two ↦ second.are.each line two ];
      };
    }

-- ---- one line

-- a line that stands first is read, behind bytes that came
pub reads_one : (back : Bool) (taken : Option Parcel) (old new : LinkView) (was then_ is : List ℕ) (p q end : ℕ) (s t : LinkState) → Fills old new was then_ → new.faults ≡ old.faults → IsFirstLine end then_ → end < most_line
    → Reads back (take end then_) taken → is ≡ drop (end + 1) then_ → q ≡ passed_after taken p → t ≡ state.Whole → ReadsOne back taken (lines_view old was p s) (lines_view new is q t)
reads_one back taken old new was then_ is p q end s t fills faults first short reads cut passed whole =
    let line : List ℕ = take end then_ in
    let parts : was ++ fills.came ≡ (line ++ (10 ∷ [])) ++ is =
    sym fills.unread ∙ first.begins.is ∙ ap (λ (l : List ℕ). line ++ (10 ∷ l)) (sym cut) ∙ sym (append_assoc line (10 ∷ []) is) in
    let long : length line + 1 ≤ most_line = omega (arith, length-take-le end then_ (omega (arith, first.inside)), short) in
    record {
      line = line;
      reads = reads;
      lines = record {
        came = fills.came;
        received = fills.received;
        to_come = fills.to_come;
        are = record {
          is = parts;
          each = λ other has. subst (λ (l : List ℕ). IsOneLine l × (length l + 1 ≤ most_line)) (only_one line other has) (first.begins.one_line, long);
        };
      };
      sent = fills.sent;
      faults = faults;
      passed = passed;
      whole = whole;
    }

-- ---- what breaks a link

-- the cause of each state in which no line came
pub holds_stopped : (stop : LinkState) (faults passed : ℕ) (link : LinkView) (unread : List ℕ) → length unread ≤ most_line + 1 → IsStop stop faults link unread → IsLineLink (lines_view link unread passed stop)
holds_stopped state.Whole faults passed link unread small why = absurd why
holds_stopped state.PassedOver faults passed link unread small why = absurd why
holds_stopped state.Ended faults passed link unread small why = record {
  small = small;
  ended = λ e. why.0;
  no_line = λ e. why.1;
  failed = λ e. absurd (cc);
  too_long = λ e. absurd (cc);
  passed_over = λ e. absurd (cc);
}
holds_stopped state.Failed faults passed link unread small why = record {
  small = small;
  ended = λ e. absurd (cc);
  no_line = λ e. absurd (cc);
  failed = λ e. omega (arith, why.1);
  too_long = λ e. absurd (cc);
  passed_over = λ e. absurd (cc);
}
holds_stopped state.TooLong faults passed link unread small why = record {
  small = small;
  ended = λ e. absurd (cc);
  no_line = λ e. absurd (cc);
  failed = λ e. absurd (cc);
  too_long = λ e. why.0;
  passed_over = λ e. absurd (cc);
}
holds_stopped state.NoMemory faults passed link unread small why = record {
  small = small;
  ended = λ e. absurd (cc);
  no_line = λ e. absurd (cc);
  failed = λ e. absurd (cc);
  too_long = λ e. absurd (cc);
  passed_over = λ e. absurd (cc);
}

counts_stopped : (stop : LinkState) (old new : LinkView) (was is : List ℕ) (p q : ℕ) (s : LinkState) → IsStop stop old.faults new is → CountsFaults (lines_view old was p s) (lines_view new is q stop)
counts_stopped state.Whole old new was is p q s why = absurd why
counts_stopped state.PassedOver old new was is p q s why = absurd why
counts_stopped state.Ended old new was is p q s why = record { failed = λ e. absurd (cc); faultless = λ ne. why.2 }
counts_stopped state.Failed old new was is p q s why = record { failed = λ e. why.1; faultless = λ ne. absurd (ne refl) }
counts_stopped state.TooLong old new was is p q s why = record { failed = λ e. absurd (cc); faultless = λ ne. why.1 }
counts_stopped state.NoMemory old new was is p q s why = record { failed = λ e. absurd (cc); faultless = λ ne. why }

not_whole : (stop : LinkState) (faults : ℕ) (link : LinkView) (unread : List ℕ) → IsStop stop faults link unread → (stop ≢ state.Whole) × (stop ≢ state.PassedOver)
not_whole state.Whole faults link unread why = absurd why
not_whole state.PassedOver faults link unread why = absurd why
not_whole state.Ended faults link unread why = (λ e. absurd (cc), λ e. absurd (cc))
not_whole state.Failed faults link unread why = (λ e. absurd (cc), λ e. absurd (cc))
not_whole state.TooLong faults link unread why = (λ e. absurd (cc), λ e. absurd (cc))
not_whole state.NoMemory faults link unread why = (λ e. absurd (cc), λ e. absurd (cc))

no_line_stopped : (stop : LinkState) (faults : ℕ) (link : LinkView) (unread : List ℕ) → IsStop stop faults link unread → stop ≡ state.Failed → HasNoLine unread
no_line_stopped state.Whole faults link unread why e = absurd why
no_line_stopped state.PassedOver faults link unread why e = absurd why
no_line_stopped state.Ended faults link unread why e = why.1
no_line_stopped state.Failed faults link unread why e = why.0
no_line_stopped state.TooLong faults link unread why e = absurd (cc)
no_line_stopped state.NoMemory faults link unread why e = absurd (cc)

pub breaks_first : (stop : LinkState) (old new : LinkView) (was is : List ℕ) (p q : ℕ) (s : LinkState) → Fills old new was is → IsStop stop old.faults new is → q ≡ p → BreaksFirst (lines_view old was p s) (lines_view new is q stop)
breaks_first stop old new was is p q s fills why passed =
    let broken = not_whole stop old.faults new is why in
    record {
      lines = fills_lines old new was is p q s stop fills;
      sent = fills.sent;
      faults = counts_stopped stop old new was is p q s why;
      passed = passed;
      broken = broken.0;
      not_flooded = broken.1;
      no_line = no_line_stopped stop old.faults new is why;
    }

-- want of memory before anything is read
pub breaks_unread : (old new : LinesView) → new.link ≡ old.link → new.unread ≡ old.unread → new.passed ≡ old.passed → new.state ≡ state.NoMemory → BreaksFirst old new
breaks_unread old new link unread passed memory = record {
  lines = reads_none old new (ap (λ (l : LinkView). l.received) link) (ap (λ (l : LinkView). l.to_come) link) unread;
  sent = ap (λ (l : LinkView). l.sent) link;
  faults = record { failed = λ e. absurd (cc); faultless = λ ne. ap (λ (l : LinkView). l.faults) link };
  passed = passed;
  broken = λ e. absurd (cc);
  not_flooded = λ e. absurd (cc);
  no_line = λ e. absurd (cc);
}
