-- Promise: The arguments of commands.
use Rattle.std.specs.Prelude.{ℕ, List, [], ◌∷◌, Bool, true, false, not, ◌&&◌, ◌||◌, nat_le, Option, Some, None, option_and_then, is_some, codes, if◌then◌else◌}
use Rattle.std.specs.List.{list_any}
use Rattle.std.specs.Str.{bytes_eq}
use Rattle.serde_json.specs.Data.{Data}
use Rattle.serde_json.specs.Find.{get, as_str, as_bool}
use Rattle.oc2_msg.specs.declared.directions.Direction.{Direction}
use Rattle.oc2_msg.specs.declared.drops.Drop3.{Drop3}
use Rattle.oc2_msg.specs.declared.arguments.FilterArgs.{FilterArgs}
use Rattle.oc2_msg.specs.declared.arguments.Args.{Args}
use Rattle.oc2_msg_targets.specs.Parts.{◌>>=◌, provided, optional, has_only, whole}
use Rattle.oc2_msg.specs.Words.{direction_named, drop_named, requests}

abbrev pub time : Data → Option ℕ
time d = whole 0 9_007_199_254_740_991 d

abbrev pub rule_number : Data → Option ℕ
rule_number d = whole 1 4_294_967_295 d

abbrev pub direction_in : Data → Option Direction
direction_in d = option_and_then direction_named (as_str d)

-- how packets are dropped is said with deny alone
abbrev pub drop_in : Bool → Data → Option Drop3
drop_in denies d = provided denies (option_and_then drop_named (as_str d))

abbrev pub is_request : List ℕ → Bool
is_request text = list_any (λ word. bytes_eq text word) requests

-- a response that is asked for; it is not kept
abbrev pub request_in : Data → Option (List ℕ)
request_in d = option_and_then (λ text. if is_request text then Some text else None) (as_str d)

-- ---- the arguments of the profile

abbrev pub filter_parts : List (List ℕ)
filter_parts = codes "direction" ∷ codes "drop_process" ∷ codes "insert_rule" ∷ codes "persistent" ∷ []

abbrev pub no_filter_args : FilterArgs
no_filter_args = record { drop_process = None; persistent = None; direction = None; insert_rule = None }

abbrev pub filter_values : Bool → Data → Option FilterArgs
filter_values denies d = do
  drop_process ← optional (drop_in denies) (get (codes "drop_process") d)
  persistent ← optional as_bool (get (codes "persistent") d)
  direction ← optional direction_in (get (codes "direction") d)
  insert_rule ← optional rule_number (get (codes "insert_rule") d)
  Some (record { drop_process = drop_process; persistent = persistent; direction = direction; insert_rule = insert_rule })

abbrev pub filter_args_in : Bool → Option Data → Option FilterArgs
filter_args_in denies None = Some no_filter_args
filter_args_in denies (Some d) = provided (has_only filter_parts d) (filter_values denies d)

-- ---- all arguments

abbrev pub arg_parts : List (List ℕ)
arg_parts =
    codes "duration" ∷ codes "response_requested" ∷ codes "slpf" ∷ codes "start_time" ∷ codes "stop_time" ∷ []

abbrev pub is_at_least : ℕ → Option ℕ → Bool
is_at_least n None = true
is_at_least n (Some m) = nat_le n m

-- where both stand, the first is at most the second
abbrev pub is_at_most : Option ℕ → Option ℕ → Bool
is_at_most None other = true
is_at_most (Some n) other = is_at_least n other

-- Not all three times stand; the stop is not before the start, and the duration is not greater than the stop.
abbrev pub are_times : Option ℕ → Option ℕ → Option ℕ → Bool
are_times start stop duration =
    not (is_some start && is_some stop && is_some duration) && is_at_most start stop && is_at_most duration stop

abbrev pub no_args : Args
no_args = record { start_time = None; stop_time = None; duration = None; slpf = no_filter_args }

abbrev pub with_times : Args → Option Args
with_times a = if are_times a.start_time a.stop_time a.duration then Some a else None

abbrev pub arg_values : Bool → Data → Option Args
arg_values denies d = do
  start_time ← optional time (get (codes "start_time") d)
  stop_time ← optional time (get (codes "stop_time") d)
  duration ← optional time (get (codes "duration") d)
  request ← optional request_in (get (codes "response_requested") d)
  slpf ← filter_args_in denies (get (codes "slpf") d)
  Some (record { start_time = start_time; stop_time = stop_time; duration = duration; slpf = slpf })

-- the arguments; an absent `args` has none
abbrev pub args_in : Bool → Option Data → Option Args
args_in denies None = Some no_args
args_in denies (Some d) = provided (has_only arg_parts d) (option_and_then with_times (arg_values denies d))

-- ---- arguments that this profile does not serve

abbrev pub is_false : Option Bool → Bool
is_false None = false
is_false (Some b) = not b

abbrev pub has_filter_arg : FilterArgs → Bool
has_filter_arg a = is_some a.drop_process || is_some a.persistent || is_some a.direction || is_some a.insert_rule

abbrev pub has_time : Args → Bool
has_time a = is_some a.start_time || is_some a.stop_time || is_some a.duration

-- Rules that are not persistent; beside an action that adds no rule, times and the arguments of the profile.
abbrev pub is_unserved : Bool → Args → Bool
is_unserved adds a = is_false a.slpf.persistent || (not adds && (has_time a || has_filter_arg a.slpf))
