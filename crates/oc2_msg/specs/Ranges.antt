-- Promise: The ranges of commands and responses.
use Rattle.std.specs.Prelude.{◌≡◌, ℕ, ◌<◌, ◌≤◌, ◌==◌, ◌^◌, List, [], ◌∷◌, length, Bool, true, false, IsTrue, Option, ⊤, IsUtf8, unwrap_or}
use Rattle.std.specs.List.{list_any}
use Rattle.oc2_nets.specs.declared.flows.Flow.{Flow}
use Rattle.oc2_msg_targets.specs.Targets.{has_part}
use Rattle.oc2_msg_targets.specs.Features.{is_distinct}
use Rattle.oc2_msg_targets.specs.Ranges.{IsRuleNumber, Each, FlowInRange}
use Rattle.oc2_msg.specs.declared.drops.Drop3.{Drop3}
use Rattle.oc2_msg.specs.declared.drops.Drop3.TheVariants.{Silent}
use Rattle.oc2_msg.specs.declared.arguments.FilterArgs.{FilterArgs}
use Rattle.oc2_msg.specs.declared.arguments.Args.{Args}
use Rattle.oc2_msg.specs.declared.commands.Command.{Command}
use Rattle.oc2_msg.specs.declared.commands.Command.TheVariants as command
use Rattle.oc2_msg.specs.declared.responses.Response.{Response}
use Rattle.oc2_msg.specs.declared.answers.Answer.{Answer}
use Rattle.oc2_msg.specs.Args.{are_times}

-- in milliseconds
abbrev pub IsTime : ℕ → Type 0
IsTime n = n ≤ 9_007_199_254_740_991

-- how packets are dropped is said of a rule that denies
abbrev pub MayDrop : Bool → Drop3 → Type 0
MayDrop true drops = ⊤
MayDrop false drops = drops ≡ Silent

pub record RuleInRange (deny : Bool) (f : Flow) (drops : Drop3) (insert start stop duration : Option ℕ) : Type 0 where
  pub flow_fits : FlowInRange f
  pub some_part : IsTrue (has_part f)
  pub may_drop : MayDrop deny drops
  pub insert_fits : Each IsRuleNumber insert
  pub start_fits : Each IsTime start
  pub stop_fits : Each IsTime stop
  pub duration_fits : Each IsTime duration
  pub times : IsTrue (are_times start stop duration)

-- the ranges and demands that every command keeps which a reader gives
abbrev pub InRange : Command → Type 0
InRange (command.Rule deny f direction drops insert start stop duration) =
    RuleInRange deny f drops insert start stop duration
InRange (command.Delete number) = IsRuleNumber number
InRange (command.Update name) = IsUtf8 name
InRange (command.Query features) = IsTrue (is_distinct features)

-- ---- the arguments that are read

abbrev pub FilterArgsInRange : Bool → FilterArgs → Type 0
FilterArgsInRange denies a = MayDrop denies (unwrap_or a.drop_process Silent) × Each IsRuleNumber a.insert_rule

pub record ArgsInRange (denies : Bool) (a : Args) : Type 0 where
  pub start_fits : Each IsTime a.start_time
  pub stop_fits : Each IsTime a.stop_time
  pub duration_fits : Each IsTime a.duration
  pub slpf_fits : FilterArgsInRange denies a.slpf

abbrev pub HasTimes : Args → Type 0
HasTimes a = IsTrue (are_times a.start_time a.stop_time a.duration)

-- ---- responses

abbrev pub statuses : List ℕ
statuses = 102 ∷ 200 ∷ 400 ∷ 401 ∷ 403 ∷ 404 ∷ 500 ∷ 501 ∷ 503 ∷ []

abbrev pub is_status : ℕ → Bool
is_status status = list_any (λ code. status == code) statuses

-- a status code
abbrev pub IsStatus : ℕ → Type 0
IsStatus status = IsTrue (is_status status)

-- the ranges of a response
pub record ResponseInRange (r : Response) : Type 0 where
  pub status_known : IsStatus r.status
  pub rule_fits : r.rule < 2 ^ 32

-- what every answer keeps that a reader gives
pub record AnswerInRange (a : Answer) : Type 0 where
  pub status_known : IsStatus a.status
  pub rule_fits : a.rule < 2 ^ 32
  pub text_fits : length a.text ≤ 4_096
  pub text_utf8 : IsUtf8 a.text
