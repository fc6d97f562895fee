-- Promise: The texts of refusals and responses.
use Rattle.std.specs.Prelude.{ℕ, List, [], codes}
use Rattle.oc2_msg.specs.declared.reasons.Reason.{Reason}
use Rattle.oc2_msg.specs.declared.reasons.Reason.TheVariants as reason

abbrev pub reason_text : Reason → List ℕ
reason_text reason.Empty = []
reason_text reason.MalformedCommand = codes "malformed command"
reason_text reason.UnsupportedAction = codes "unsupported action"
reason_text reason.UnsupportedPair = codes "unsupported pair"
reason_text reason.MalformedTarget = codes "malformed target"
reason_text reason.MalformedArgs = codes "malformed args"
reason_text reason.UnsupportedArgs = codes "unsupported args"
reason_text reason.RuleNumberHeld = codes "rule number held"
reason_text reason.TableFull = codes "table full"
reason_text reason.NoNumberLeft = codes "no number left"
reason_text reason.RuleNotHeld = codes "rule not held"
reason_text reason.UnknownFile = codes "unknown file"
