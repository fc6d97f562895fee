-- Arguments that are written and read.
use Rattle.std.proofs.Common.{◌≡◌, ◌≤◌, ℕ, suc, Bool, true, List, [], ◌∷◌, codes, Option, Some, None, option_map, refl, ◌∙◌, arith, lit≤}
use Rattle.serde_json.specs.Data.{Data, object, depth, Members, no_members, member}
use Rattle.serde_json.specs.Find.{get}
use Rattle.cacao_json.specs.Profile.{IsFormed}
use Rattle.oc2_msg.specs.declared.directions.Direction.{Direction}
use Rattle.oc2_msg.specs.declared.drops.Drop3.{Drop3}
use Rattle.oc2_msg.specs.declared.arguments.FilterArgs.{FilterArgs}
use Rattle.oc2_msg.specs.declared.arguments.Args.{Args}
use Rattle.oc2_msg_targets.specs.Parts.{optional, whole_data, has_only, object_of, present, is_absent_or, is_object, unless_empty}
use Rattle.oc2_msg.specs.Args.{time, filter_parts, filter_args_in, arg_parts, are_times, args_in}
use Rattle.oc2_msg_targets.specs.Ranges.{Each, IsRuleNumber}
use Rattle.oc2_msg.specs.Ranges.{IsTime, MayDrop}
use Rattle.oc2_msg.specs.Least.{direction_part, drop_part, filter_part, args_part}
use Rattle.oc2_msg_targets.proofs.PresentLemmas.{Part, get_member-present, are_among-present, ArePartsOf, AreFormedMembers-present, members_depth-present, Each-unless_empty, is_object-unless_empty}
use Rattle.oc2_msg_targets.proofs.ValueLemmas.{optional_whole-back, Each-whole_data, IsUtf8-word}
use Rattle.oc2_msg.proofs.WordLemmas.{optional_direction-back, direction_read, optional_drop-back, drop_read, Each-direction_part, Each-drop_part}

-- ---- the arguments of the profile

abbrev filter_list : Direction → Drop3 → Option ℕ → List Part
filter_list towards drops insert =
    (codes "direction", direction_part towards) ∷ (codes "drop_process", drop_part drops)
    ∷ (codes "insert_rule", option_map whole_data insert) ∷ []

abbrev pub filter_read : Direction → Drop3 → Option ℕ → FilterArgs
filter_read towards drops insert =
    record { drop_process = drop_read drops; persistent = None; direction = direction_read towards; insert_rule = insert }

record HasFilter (d : Data) (towards : Direction) (drops : Drop3) (insert : Option ℕ) : Type 0 where
  pub only : has_only filter_parts d ≡ true
  pub drop_process : get (codes "drop_process") d ≡ drop_part drops
  pub persistent : get (codes "persistent") d ≡ None
  pub direction : get (codes "direction") d ≡ direction_part towards
  pub insert_rule : get (codes "insert_rule") d ≡ option_map whole_data insert

has_filter : (towards : Direction) (drops : Drop3) (insert : Option ℕ) → HasFilter (object_of (filter_list towards drops insert)) towards drops insert
has_filter towards drops insert =
    let parts = filter_list towards drops insert in
    record {
      only = are_among-present filter_parts parts refl;
      drop_process = get_member-present (codes "drop_process") parts;
      persistent = get_member-present (codes "persistent") parts;
      direction = get_member-present (codes "direction") parts;
      insert_rule = get_member-present (codes "insert_rule") parts;
    }

filter_found : (denies : Bool) (d : Data) (towards : Direction) (drops : Drop3) (insert : Option ℕ) → HasFilter d towards drops insert → MayDrop denies drops → Each IsRuleNumber insert → filter_args_in denies (Some d) ≡ Some (filter_read towards drops insert)
filter_found denies d towards drops insert h may fits =
    rw (
      h.only,
      h.drop_process,
      h.persistent,
      h.direction,
      h.insert_rule,
      optional_drop-back denies drops may,
      optional_direction-back towards,
      optional_whole-back 1 4294967295 insert fits,
    ) refl

filter_unless_empty : (denies : Bool) (ms : Members) → filter_args_in denies (unless_empty ms) ≡ filter_args_in denies (Some (object ms))
filter_unless_empty denies no_members = refl
filter_unless_empty denies (member k d ms) = refl

filter_back : (denies : Bool) (towards : Direction) (drops : Drop3) (insert : Option ℕ) → MayDrop denies drops → Each IsRuleNumber insert → filter_args_in denies (filter_part towards drops insert) ≡ Some (filter_read towards drops insert)
filter_back denies towards drops insert may fits =
    filter_unless_empty denies (present (filter_list towards drops insert))
    ∙ filter_found denies (object_of (filter_list towards drops insert)) towards drops insert (has_filter towards drops insert) may fits

rule_numbers : (o : Option ℕ) → Each IsRuleNumber o → Each (λ n. n ≤ 4294967295) o
rule_numbers None h = tt
rule_numbers (Some n) h = h.1

abbrev IsPart : ℕ → Option Data → Type 0
IsPart n o = Each IsFormed o × Each (λ e. depth e ≤ n) o

filter_fits : (towards : Direction) (drops : Drop3) (insert : Option ℕ) → Each IsRuleNumber insert → IsPart 1 (filter_part towards drops insert)
filter_fits towards drops insert fits =
    let a = Each-direction_part towards in
    let b = Each-drop_part drops in
    let c = Each-whole_data 4294967295 insert (rule_numbers insert fits) (lit≤ tt) in
    let parts = filter_list towards drops insert in
    let h : ArePartsOf 0 parts = (
      IsUtf8-word (codes "direction") refl,
      a.0,
      a.1,
      (refl, (refl, tt)),
      (
        IsUtf8-word (codes "drop_process") refl,
        b.0,
        b.1,
        (refl, tt),
        (IsUtf8-word (codes "insert_rule") refl, c.0, c.1, tt, tt),
      ),
    ) in
    Each-unless_empty 0 (present parts) (AreFormedMembers-present 0 parts h) (members_depth-present 0 parts h)

-- ---- all arguments

abbrev arg_list : Direction → Drop3 → Option ℕ → Option ℕ → Option ℕ → Option ℕ → List Part
arg_list towards drops insert start stop duration =
    (codes "duration", option_map whole_data duration) ∷ (codes "slpf", filter_part towards drops insert)
    ∷ (codes "start_time", option_map whole_data start) ∷ (codes "stop_time", option_map whole_data stop) ∷ []

abbrev pub args_read : Direction → Drop3 → Option ℕ → Option ℕ → Option ℕ → Option ℕ → Args
args_read towards drops insert start stop duration =
    record { start_time = start; stop_time = stop; duration = duration; slpf = filter_read towards drops insert }

record HasArgs (d : Data) (slpf : Option Data) (start stop duration : Option ℕ) : Type 0 where
  pub only : has_only arg_parts d ≡ true
  pub starts : get (codes "start_time") d ≡ option_map whole_data start
  pub stops : get (codes "stop_time") d ≡ option_map whole_data stop
  pub durations : get (codes "duration") d ≡ option_map whole_data duration
  pub request : get (codes "response_requested") d ≡ None
  pub slpfs : get (codes "slpf") d ≡ slpf

has_args : (towards : Direction) (drops : Drop3) (insert start stop duration : Option ℕ) → HasArgs (object_of (arg_list towards drops insert start stop duration)) (filter_part towards drops insert) start stop duration
has_args towards drops insert start stop duration =
    let parts = arg_list towards drops insert start stop duration in
    record {
      only = are_among-present arg_parts parts refl;
      starts = get_member-present (codes "start_time") parts;
      stops = get_member-present (codes "stop_time") parts;
      durations = get_member-present (codes "duration") parts;
      request = get_member-present (codes "response_requested") parts;
      slpfs = get_member-present (codes "slpf") parts;
    }

times : (o : Option ℕ) → Each IsTime o → Each (λ n. (0 ≤ n) × (n ≤ 9007199254740991)) o
times None h = tt
times (Some n) h = (omega arith, h)

time_back : (o : Option ℕ) → Each IsTime o → optional time (option_map whole_data o) ≡ Some o
time_back o h = optional_whole-back 0 9007199254740991 o (times o h)

args_found : (denies : Bool) (d : Data) (slpf : Option Data) (filter : FilterArgs) (start stop duration : Option ℕ) → HasArgs d slpf start stop duration → filter_args_in denies slpf ≡ Some filter → Each IsTime start → Each IsTime stop → Each IsTime duration → are_times start stop duration ≡ true → args_in denies (Some d) ≡ Some (record { start_time = start; stop_time = stop; duration = duration; slpf = filter })
args_found denies d slpf filter start stop duration h read fstart fstop fduration ok =
    rw (
      h.only,
      h.starts,
      h.stops,
      h.durations,
      h.request,
      h.slpfs,
      time_back start fstart,
      time_back stop fstop,
      time_back duration fduration,
      read,
      ok,
    ) refl

args_unless_empty : (denies : Bool) (ms : Members) → args_in denies (unless_empty ms) ≡ args_in denies (Some (object ms))
args_unless_empty denies no_members = refl
args_unless_empty denies (member k d ms) = refl

pub args_back : (denies : Bool) (towards : Direction) (drops : Drop3) (insert start stop duration : Option ℕ) → MayDrop denies drops → Each IsRuleNumber insert → Each IsTime start → Each IsTime stop → Each IsTime duration → are_times start stop duration ≡ true → args_in denies (args_part towards drops insert start stop duration) ≡ Some (args_read towards drops insert start stop duration)
args_back denies towards drops insert start stop duration may finsert fstart fstop fduration ok =
    let parts = arg_list towards drops insert start stop duration in
    args_unless_empty denies (present parts)
    ∙ args_found denies (object_of parts) (filter_part towards drops insert) (filter_read towards drops insert) start stop duration
    (has_args towards drops insert start stop duration) (filter_back denies towards drops insert may finsert) fstart fstop fduration ok

pub args_are_object : (towards : Direction) (drops : Drop3) (insert start stop duration : Option ℕ) → is_absent_or is_object (args_part towards drops insert start stop duration) ≡ true
args_are_object towards drops insert start stop duration = is_object-unless_empty (present (arg_list towards drops insert start stop duration))

more : (n : ℕ) (o : Option Data) → Each (λ e. depth e ≤ n) o → Each (λ e. depth e ≤ suc n) o
more n None h = tt
more n (Some d) h = omega arith

pub args_fit : (towards : Direction) (drops : Drop3) (insert start stop duration : Option ℕ) → Each IsRuleNumber insert → Each IsTime start → Each IsTime stop → Each IsTime duration → IsPart 2 (args_part towards drops insert start stop duration)
args_fit towards drops insert start stop duration finsert fstart fstop fduration =
    let a = Each-whole_data 9007199254740991 duration fduration (omega arith) in
    let b = filter_fits towards drops insert finsert in
    let c = Each-whole_data 9007199254740991 start fstart (omega arith) in
    let d = Each-whole_data 9007199254740991 stop fstop (omega arith) in
    let parts = arg_list towards drops insert start stop duration in
    let h : ArePartsOf 1 parts = (
      IsUtf8-word (codes "duration") refl,
      a.0,
      more 0 _ a.1,
      (refl, (refl, (refl, tt))),
      (
        IsUtf8-word (codes "slpf") refl,
        b.0,
        b.1,
        (refl, (refl, tt)),
        (
          IsUtf8-word (codes "start_time") refl,
          c.0,
          more 0 _ c.1,
          (refl, tt),
          (IsUtf8-word (codes "stop_time") refl, d.0, more 0 _ d.1, tt, tt),
        ),
      ),
    ) in
    Each-unless_empty 1 (present parts) (AreFormedMembers-present 1 parts h) (members_depth-present 1 parts h)
