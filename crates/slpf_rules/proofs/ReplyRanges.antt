-- The ranges of replies.
use Rattle.std.proofs.Common.{◌≡◌, ◌≢◌, ℕ, ◌+◌, ◌<◌, ◌≤◌, Bool, true, false, cond, ◌&&◌, nat_le, unwrap_or, List, [], ◌∷◌, Option, Some, None, Result, Ok, Err, codes, refl, ap, subst, arith}
use Rattle.std.specs.Prelude.{option_and_then, option_map, bytes_eq}
use Rattle.std.specs.Option.{ok_or}
use Rattle.std.proofs.lemmas.Option.{option_and_then_some}
use Rattle.std.proofs.lemmas.Bool.Decides.{nat_tests}
use Rattle.cacao_json.specs.Reading.{tree}
use Rattle.serde_json.specs.Data.{Data, null}
use Rattle.serde_json.specs.Find.{get, as_bool, as_integer, as_number}
use Rattle.oc2_msg_targets.specs.declared.actions.Action.{Action}
use Rattle.oc2_msg.specs.declared.arguments.Args.{Args}
use Rattle.oc2_msg.specs.declared.arguments.FilterArgs.{FilterArgs}
use Rattle.oc2_msg.specs.declared.commands.Command.{Command}
use Rattle.oc2_msg.specs.declared.commands.Command.TheVariants as command
use Rattle.oc2_msg.specs.declared.reasons.Reason.{Reason}
use Rattle.oc2_msg.specs.declared.reasons.Reason.TheVariants as reason
use Rattle.oc2_msg.specs.declared.refusals.Refusal.{Refusal}
use Rattle.oc2_msg.specs.declared.responses.Response.{Response}
use Rattle.oc2_msg_targets.specs.declared.targets.Target.{Target}
use Rattle.oc2_msg_targets.specs.declared.targets.Target.TheVariants as target
use Rattle.oc2_msg_targets.specs.Parts.{has_only, optional, provided, whole, natural}
use Rattle.oc2_msg.specs.Args.{time, drop_in, direction_in, rule_number, filter_parts, filter_args_in, filter_values, request_in, are_times, arg_parts, arg_values, with_times, args_in}
use Rattle.oc2_msg.specs.Commands.{refusal, first_row, rows, answered, command_of, command_with, action_of, target_of, args_of, answer_to}
use Rattle.oc2_msg_targets.specs.Ranges.{Each, IsRuleNumber}
use Rattle.oc2_msg.specs.Ranges.{IsStatus}
use Rattle.slpf_rules.specs.declared.rules.Rule.{Rule}
use Rattle.slpf_rules.specs.Rules.{is_held, greatest}
use Rattle.slpf_rules.specs.Replies.{is_full, number_for, start_of, stop_of, adds, answer_command, reply_to, reply}

some_inside : {A : Type 0} (a b : A) → Some a ≡ Some b → a ≡ b
some_inside a b h = cc

-- ---- a number that is asked for

between_fits : (b : Bool) (least most n m : ℕ) → (nat_le least n && nat_le n most) ≡ b → cond b (Some n) None ≡ Some m → (least ≤ m) × (m ≤ most)
between_fits true least most n m h e = let same : n ≡ m = ap (λ o. unwrap_or o 0) e in grind (arith, nat_tests)
between_fits false least most n m h e = cc

whole_fits : (least most : ℕ) (d : Data) (n : ℕ) → whole least most d ≡ Some n → (least ≤ n) × (n ≤ most)
whole_fits least most d n h =
    option_and_then_some _ (option_and_then as_integer (as_number d)) n h (λ z is rest.
    option_and_then_some _ (natural z) n rest (λ k is2 last. between_fits (nat_le least k && nat_le k most) least most k n refl last))

mapped : (P : ℕ → Type 0) (o : Option ℕ) (n : Option ℕ) → ((k : ℕ) → o ≡ Some k → P k) → option_map Some o ≡ Some n → Each P n
mapped P None n fits h = cc
mapped P (Some k) n fits h = subst (Each P) (some_inside (Some k) n h) (fits k refl)

provided_some : {A : Type 0} (b : Bool) (o : Option A) (a : A) → provided b o ≡ Some a → o ≡ Some a
provided_some true o a h = h
provided_some false o a h = cc

optional_fits : (P : ℕ → Type 0) (read : Data → Option ℕ) (o : Option Data) (n : Option ℕ) → ((d : Data) (k : ℕ) → read d ≡ Some k → P k) → optional read o ≡ Some n → Each P n
optional_fits P read None n fits h = subst (Each P) (some_inside None n h) tt
optional_fits P read (Some d) n fits h = mapped P (read d) n (fits d) h

filter_values_fit : (denies : Bool) (d : Data) (a : FilterArgs) → filter_values denies d ≡ Some a → Each IsRuleNumber a.insert_rule
filter_values_fit denies d a h =
    option_and_then_some _ (optional (drop_in denies) (get (codes "drop_process") d)) a h (λ x1 is1 r1.
    option_and_then_some _ (optional as_bool (get (codes "persistent") d)) a r1 (λ x2 is2 r2.
    option_and_then_some _ (optional direction_in (get (codes "direction") d)) a r2 (λ x3 is3 r3.
    option_and_then_some _ (optional rule_number (get (codes "insert_rule") d)) a r3 (λ x4 is4 r4.
    subst (λ (f : FilterArgs). Each IsRuleNumber f.insert_rule) (some_inside _ a r4)
    (optional_fits IsRuleNumber rule_number (get (codes "insert_rule") d) x4 (λ e k is. whole_fits 1 4_294_967_295 e k is) is4)))))

filter_args_fit : (denies : Bool) (o : Option Data) (a : FilterArgs) → filter_args_in denies o ≡ Some a → Each IsRuleNumber a.insert_rule
filter_args_fit denies None a h = subst (λ (f : FilterArgs). Each IsRuleNumber f.insert_rule) (some_inside _ a h) tt
filter_args_fit denies (Some d) a h = filter_values_fit denies d a (provided_some (has_only filter_parts d) (filter_values denies d) a h)

with_times_same : (b : Bool) (w a : Args) → cond b (Some w) None ≡ Some a → w ≡ a
with_times_same true w a h = some_inside w a h
with_times_same false w a h = cc

arg_values_fit : (denies : Bool) (d : Data) (a : Args) → arg_values denies d ≡ Some a → Each IsRuleNumber a.slpf.insert_rule
arg_values_fit denies d a h =
    option_and_then_some _ (optional time (get (codes "start_time") d)) a h (λ x1 is1 r1.
    option_and_then_some _ (optional time (get (codes "stop_time") d)) a r1 (λ x2 is2 r2.
    option_and_then_some _ (optional time (get (codes "duration") d)) a r2 (λ x3 is3 r3.
    option_and_then_some _ (optional request_in (get (codes "response_requested") d)) a r3 (λ x4 is4 r4.
    option_and_then_some _ (filter_args_in denies (get (codes "slpf") d)) a r4 (λ x5 is5 r5.
    subst (λ (f : Args). Each IsRuleNumber f.slpf.insert_rule) (some_inside _ a r5) (filter_args_fit denies (get (codes "slpf") d) x5 is5))))))

args_fit : (denies : Bool) (o : Option Data) (a : Args) → args_in denies o ≡ Some a → Each IsRuleNumber a.slpf.insert_rule
args_fit denies None a h = subst (λ (f : Args). Each IsRuleNumber f.slpf.insert_rule) (some_inside _ a h) tt
args_fit denies (Some d) a h =
    option_and_then_some with_times (arg_values denies d) a (provided_some (has_only arg_parts d) (option_and_then with_times (arg_values denies d)) a h) (λ w is rest.
    subst (λ (f : Args). Each IsRuleNumber f.slpf.insert_rule) (with_times_same (are_times w.start_time w.stop_time w.duration) w a rest) (arg_values_fit denies d w is))

-- the number that a command asks for is in range
abbrev pub InsertFits : Command → Type 0
InsertFits (command.Rule deny f direction drops insert start stop duration) = Each IsRuleNumber insert
InsertFits (command.Delete number) = Unit {0}
InsertFits (command.Update name) = Unit {0}
InsertFits (command.Query features) = Unit {0}

with_fits : (a : Action) (t : Target) (w : Args) → Each IsRuleNumber w.slpf.insert_rule → InsertFits (command_with a t w)
with_fits a (target.Flow f) w h = h
with_fits a (target.RuleNumber number) w h = tt
with_fits a (target.File name) w h = tt
with_fits a (target.Features features) w h = tt

command_fits : (d : Data) (c : Command) → command_of d ≡ Some c → InsertFits c
command_fits d c h =
    option_and_then_some _ (action_of d) c h (λ a is1 r1. option_and_then_some _ (target_of d) c r1 (λ t is2 r2. option_and_then_some _ (args_of d) c r2 (λ w is3 r3.
    option_and_then_some _ (action_of d) w is3 (λ b is4 r4.
    subst InsertFits (some_inside (command_with a t w) c r3) (with_fits a t w (args_fit _ (get (codes "args") d) w r4))))))

-- ---- refusals

-- a final status
abbrev pub IsFinalStatus : ℕ → Type 0
IsFinalStatus status = IsStatus status × (status ≢ 102) × (status < 1000)

abbrev pub RefusalFits : Option Refusal → Type 0
RefusalFits None = Unit {0}
RefusalFits (Some refusal) = IsFinalStatus refusal.status

fits400 : IsFinalStatus 400
fits400 = (refl, (λ e. absurd (omega arith)), omega arith)

fits404 : IsFinalStatus 404
fits404 = (refl, (λ e. absurd (omega arith)), omega arith)

fits200 : IsFinalStatus 200
fits200 = (refl, (λ e. absurd (omega arith)), omega arith)

fits500 : IsFinalStatus 500
fits500 = (refl, (λ e. absurd (omega arith)), omega arith)

fits501 : IsFinalStatus 501
fits501 = (refl, (λ e. absurd (omega arith)), omega arith)

row_fits : (b : Bool) (r : Refusal) (o : Option Refusal) → IsFinalStatus r.status → RefusalFits o → RefusalFits (cond b (Some r) o)
row_fits true r o h w = h
row_fits false r o h w = w

abbrev RowsFit : List (Bool × Refusal) → Type 0
RowsFit [] = Unit {0}
RowsFit (row ∷ others) = IsFinalStatus row.1.status × RowsFit others

first_fits : (all : List (Bool × Refusal)) → RowsFit all → RefusalFits (first_row all)
first_fits [] h = tt
first_fits (row ∷ others) h = row_fits row.0 row.1 (first_row others) h.0 (first_fits others h.1)

rows_fit : (d : Data) → RefusalFits (first_row (rows d))
rows_fit d = first_fits (rows d) (fits400, (fits501, (fits501, (fits400, (fits400, (fits501, tt))))))

-- what an answer to bytes keeps
abbrev pub AnswerFits : Result Command Refusal → Type 0
AnswerFits (Ok c) = InsertFits c
AnswerFits (Err refusal) = IsFinalStatus refusal.status

found_fits : (o : Option Command) (r : Refusal) → IsFinalStatus r.status → ((c : Command) → o ≡ Some c → InsertFits c) → AnswerFits (ok_or o r)
found_fits None r h w = h
found_fits (Some c) r h w = w c refl

answered_fits : (row : Option Refusal) (o : Option Command) → RefusalFits row → ((c : Command) → o ≡ Some c → InsertFits c) → AnswerFits (answered row o)
answered_fits (Some r) o h w = h
answered_fits None o h w = found_fits o (refusal 400 reason.MalformedCommand) fits400 w

answer_fits : (d : Data) → AnswerFits (answer_to d)
answer_fits d = answered_fits (first_row (rows d)) (command_of d) (rows_fit d) (command_fits d)

-- ---- replies

-- the ranges of a reply
abbrev pub ReplyFits : Response → Type 0
ReplyFits r = IsFinalStatus r.status × (r.rule ≤ 4_294_967_295)

abbrev NumberFits : Result ℕ Reason → Type 0
NumberFits (Ok n) = n ≤ 4_294_967_295
NumberFits (Err reason) = Unit {0}

insert_fits : (held full : Bool) (n : ℕ) (a b : Reason) → n ≤ 4_294_967_295 → NumberFits (cond held (Err a) (cond full (Err b) (Ok n)))
insert_fits true full n a b h = tt
insert_fits false true n a b h = tt
insert_fits false false n a b h = h

below : (n : ℕ) → nat_le 4_294_967_295 n ≡ false → n + 1 ≤ 4_294_967_295
below n h = grind (arith, nat_tests)

next_fits : (full last : Bool) (n : ℕ) (a b : Reason) → nat_le 4_294_967_295 n ≡ last → NumberFits (cond full (Err a) (cond last (Err b) (Ok (n + 1))))
next_fits true last n a b h = tt
next_fits false true n a b h = tt
next_fits false false n a b h = below n h

number_fits : (insert : Option ℕ) (rules : List Rule) → Each IsRuleNumber insert → NumberFits (number_for insert rules)
number_fits (Some n) rules h = insert_fits (is_held n rules) (is_full rules) n _ _ h.1
number_fits None rules h = next_fits (is_full rules) (nat_le 4_294_967_295 (greatest rules)) (greatest rules) _ _ refl

adds_fits : (rules : List Rule) (rule : Rule) (r : Result ℕ Reason) → NumberFits r → ReplyFits (adds rules rule r).0
adds_fits rules rule (Ok n) h = (fits200, h)
adds_fits rules rule (Err reason) h = (fits500, omega arith)

either_fits : (b : Bool) (x y : Response × List Rule) → ReplyFits x.0 → ReplyFits y.0 → ReplyFits (cond b x y).0
either_fits true x y h w = h
either_fits false x y h w = w

command_reply_fits : (rules : List Rule) (c : Command) (moment : ℕ) → InsertFits c → ReplyFits (answer_command rules c moment).0
command_reply_fits rules (command.Rule deny f direction drops insert start stop duration) moment h =
    let begin = start_of start stop duration moment in
    adds_fits rules
    (record {
      number = 0;
      deny = deny;
      direction = direction;
      flow = f;
      drop = drops;
      start = begin;
      stop = stop_of stop duration begin;
    })
    (number_for insert rules) (number_fits insert rules h)
command_reply_fits rules (command.Delete number) moment h = either_fits (is_held number rules) _ _ (fits200, omega arith) (fits404, omega arith)
command_reply_fits rules (command.Update name) moment h = either_fits (bytes_eq name (codes "empty.rules")) _ _ (fits200, omega arith) (fits500, omega arith)
command_reply_fits rules (command.Query features) moment h = (fits200, omega arith)

reply_to_fits : (rules : List Rule) (moment : ℕ) (r : Result Command Refusal) → AnswerFits r → ReplyFits (reply_to rules moment r).0
reply_to_fits rules moment (Ok c) h = command_reply_fits rules c moment h
reply_to_fits rules moment (Err refusal) h = (h, omega arith)

pub reply_fits : (rules : List Rule) (bytes : List ℕ) (moment : ℕ) → ReplyFits (reply rules bytes moment).0
reply_fits rules bytes moment = reply_to_fits rules moment (answer_to (unwrap_or (tree bytes) null)) (answer_fits (unwrap_or (tree bytes) null))
