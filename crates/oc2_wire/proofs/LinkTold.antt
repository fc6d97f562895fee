-- What a call of the filters' end answers, by what broke its link.
use Rattle.std.proofs.Common.{◌≡◌, ℕ, refl, sym, ◌∙◌}
use Rattle.std.specs.Prelude.{Result, Ok, Err}
use Rattle.oc2_wire_site.specs.Wires.{WireView}
use Rattle.oc2_wire_site.specs.declared.link_state.LinkState.{LinkState}
use Rattle.oc2_wire_site.specs.declared.link_state.LinkState.TheVariants as state
use Rattle.oc2_wire.specs.Answering.{TellsLink}
use Rattle.oc2_wire.specs.declared.error.WireError.{WireError}
use Rattle.oc2_wire.specs.declared.error.WireError.TheVariants as error

-- a link is in one state
apart : (wire : WireView) (a b : LinkState) → (a ≡ b → ⊥) → wire.lines.state ≡ a → wire.lines.state ≡ b → ⊥
apart wire a b ne is e = ne (sym is ∙ e)

-- ---- the link ended the call

pub tells_ended : (acted : ℕ) (wire : WireView) → wire.lines.state ≡ state.Ended → TellsLink (Ok acted) wire
tells_ended acted wire is = record {
  ended = λ e. refl;
  failed = λ e. absurd (apart wire state.Ended state.Failed (λ f. cc) is e);
  too_long = λ e. absurd (apart wire state.Ended state.TooLong (λ f. cc) is e);
  not_over = apart wire state.Ended state.PassedOver (λ f. cc) is;
  no_memory = λ e. absurd (apart wire state.Ended state.NoMemory (λ f. cc) is e);
}

pub tells_failed : (wire : WireView) → wire.lines.state ≡ state.Failed → TellsLink (Err error.Link) wire
tells_failed wire is = record {
  ended = λ e. absurd (apart wire state.Failed state.Ended (λ f. cc) is e);
  failed = λ e. refl;
  too_long = λ e. absurd (apart wire state.Failed state.TooLong (λ f. cc) is e);
  not_over = apart wire state.Failed state.PassedOver (λ f. cc) is;
  no_memory = λ e. absurd (apart wire state.Failed state.NoMemory (λ f. cc) is e);
}

pub tells_too_long : (wire : WireView) → wire.lines.state ≡ state.TooLong → TellsLink (Err error.TooLong) wire
tells_too_long wire is = record {
  ended = λ e. absurd (apart wire state.TooLong state.Ended (λ f. cc) is e);
  failed = λ e. absurd (apart wire state.TooLong state.Failed (λ f. cc) is e);
  too_long = λ e. refl;
  not_over = apart wire state.TooLong state.PassedOver (λ f. cc) is;
  no_memory = λ e. absurd (apart wire state.TooLong state.NoMemory (λ f. cc) is e);
}

pub tells_no_memory : (wire : WireView) → wire.lines.state ≡ state.NoMemory → TellsLink (Err error.Memory) wire
tells_no_memory wire is = record {
  ended = λ e. absurd (apart wire state.NoMemory state.Ended (λ f. cc) is e);
  failed = λ e. absurd (apart wire state.NoMemory state.Failed (λ f. cc) is e);
  too_long = λ e. absurd (apart wire state.NoMemory state.TooLong (λ f. cc) is e);
  not_over = apart wire state.NoMemory state.PassedOver (λ f. cc) is;
  no_memory = λ e. refl;
}

-- ---- something else did, while it was whole

pub tells_none : (r : Result ℕ WireError) (wire : WireView) → wire.lines.state ≡ state.Whole → TellsLink r wire
tells_none r wire is = record {
  ended = λ e. absurd (apart wire state.Whole state.Ended (λ f. cc) is e);
  failed = λ e. absurd (apart wire state.Whole state.Failed (λ f. cc) is e);
  too_long = λ e. absurd (apart wire state.Whole state.TooLong (λ f. cc) is e);
  not_over = apart wire state.Whole state.PassedOver (λ f. cc) is;
  no_memory = λ e. absurd (apart wire state.Whole state.NoMemory (λ f. cc) is e);
}
