-- What was read, by what the reading answered.
use Rattle.std.proofs.Common.{◌≡◌, ◌∙◌, ◌<◌, ℕ, ◌+◌, Bool, List, take, drop, ap, sym, subst}
use Rattle.std.specs.Prelude.{Option, Result, Ok, Err, IfOk, IfErr, OnOk, OnErr}
use Rattle.cacao_site.specs.declared.parcel.Parcel.{Parcel}
use Rattle.oc2_wire_link.specs.Links.{LinkView}
use Rattle.oc2_wire_lines.specs.Lines.{Reads, most_line}
use Rattle.oc2_wire_site.specs.LineLinks.{ReadsOne, lines_view, passed_after}
use Rattle.oc2_wire_site.specs.LineSteps.{Fills, IsFirstLine, IsStop}
use Rattle.oc2_wire_site.specs.declared.link_state.LinkState.{LinkState}
use Rattle.oc2_wire_site.specs.declared.link_state.LinkState.TheVariants as state
use Rattle.oc2_wire_site.proofs.LineLemmas.{reads_one}

-- a line came, and then was read, or memory was wanted
module _ (read : Result (Option Parcel) LinkState) (old mid new : LinkView) (was then_ is : List ℕ) (same : new ≡ mid) (fills : Fills old mid was then_) (faults : mid.faults ≡ old.faults) where
  fills_new : Fills old new was then_
  fills_new = subst (λ (l : LinkView). Fills old l was then_) (sym same) fills

  faults_new : new.faults ≡ old.faults
  faults_new = ap (λ (l : LinkView). l.faults) same ∙ faults

  pub one_read : (back : Bool) (p q end : ℕ) (s t : LinkState) → IsFirstLine end then_ × (end < most_line) → IfOk read (Reads back (take end then_)) → OnOk read (is ≡ drop (end + 1) then_) → IfOk read (λ taken. q ≡ passed_after taken p) → t ≡ state.Whole
      → IfOk read (λ taken. ReadsOne back taken (lines_view old was p s) (lines_view new is q t))
  one_read back p q end s t line reads cut passed whole =
      by_cases read reads cut passed
    where
      by_cases : (r : Result (Option Parcel) LinkState) → IfOk r (Reads back (take end then_)) → OnOk r (is ≡ drop (end + 1) then_) → IfOk r (λ taken. q ≡ passed_after taken p) → IfOk r (λ taken. ReadsOne back taken (lines_view old was p s) (lines_view new is q t))
      by_cases (Ok taken) reads' cut' passed' = reads_one back taken old new was then_ is p q end s t fills_new faults_new line.0 line.1 reads' cut' passed' whole
      by_cases (Err stop) reads' cut' passed' = tt

  pub stop_read : IfErr read (λ stop. stop ≡ state.NoMemory) → IfErr read (λ stop. IsStop stop old.faults new is)
  stop_read wants = by_cases read wants
    where
      by_cases : (r : Result (Option Parcel) LinkState) → IfErr r (λ stop. stop ≡ state.NoMemory) → IfErr r (λ stop. IsStop stop old.faults new is)
      by_cases (Ok taken) wants' = tt
      by_cases (Err stop) wants' = subst (λ (s : LinkState). IsStop s old.faults new is) (sym wants') faults_new

  pub fills_read : OnErr read (is ≡ then_) → OnErr read (Fills old new was is)
  fills_read stays = by_cases read stays
    where
      by_cases : (r : Result (Option Parcel) LinkState) → OnErr r (is ≡ then_) → OnErr r (Fills old new was is)
      by_cases (Ok taken) stays' = tt
      by_cases (Err stop) stays' = subst (λ (l : List ℕ). Fills old new was l) (sym stays') fills_new
