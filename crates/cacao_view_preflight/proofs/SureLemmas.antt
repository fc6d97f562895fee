-- Each answer to a command that is filled is as it is said to be sure.
use Rattle.std.proofs.Common.{◌≡◌, ◌⊎◌, inl, inr, ◌∙◌, refl, sym, ap, subst, ℕ, Bool, true, false, List, length, codes, Option, Some, None, Result, Ok, Err}
use Rattle.std.specs.Prelude.{nat_le, option_map, option_and_then, unwrap_or, if◌then◌else◌}
use Rattle.std.specs.Option.{option_map_or}
use Rattle.std.specs.Str.{bytes_eq}
use Rattle.serde_json.specs.Data.{Data, null, boolean, number, string, array, object, Members, no_members}
use Rattle.serde_json.specs.Find.{as_str, get_member}
use Rattle.cacao_json.specs.Reading.{tree}
use Rattle.cacao_json.specs.Tree.{without}
use Rattle.cacao_json.specs.Profile.{IsTree}
use Rattle.cacao_json.specs.Laws.{MembersHaveProfile, PutKeepsProfile, RemovalKeepsProfile}
use Rattle.cacao_text.specs.Canon.{canon}
use Rattle.cacao_text.specs.Laws.{ReadsBack, TextsHaveTrees}
use Rattle.cacao_vars.specs.References.{ReferencesGoOn}
use Rattle.cacao_vars.specs.declared.declarations.Var.{Var}
use Rattle.cacao_check_steps.specs.Uses.{is_manual}
use Rattle.flow_core_rules.specs.State.{Lists}
use Rattle.flow_core_rules.specs.Filled.{addressed, command_id, completed, filled, filled_items, filled_members, set_member, with_member}
use Rattle.oc2_msg_targets.specs.declared.actions.Action.{Action}
use Rattle.oc2_msg_targets.specs.Parts.{are_among, is_absent_or, is_object, names_of, one_member, single}
use Rattle.oc2_msg_targets.specs.Words.{action_word}
use Rattle.oc2_msg.specs.declared.commands.Command.{Command}
use Rattle.oc2_msg.specs.declared.refusals.Refusal.{Refusal}
use Rattle.oc2_msg.specs.declared.reasons.Reason.TheVariants as reason
use Rattle.oc2_msg.specs.Commands.{action_of, answer_of, answer_to, args_of, command_parts, is_command, is_command_id, kind_of, refusal, target_of}
use Rattle.slpf_rules.specs.declared.rules.Rule.{Rule}
use Rattle.slpf_rules.specs.Replies.{reply, reply_to}
use Rattle.cacao_view_preflight.specs.declared.sure.Sure.{Sure}
use Rattle.cacao_view_preflight.specs.declared.sure.Sure.TheVariants as sure
use Rattle.cacao_view_preflight.specs.Settled.{args_members, changed, command_members, command_settled, error_of, fitting_action, in_object, is_open, is_open_at, named_settled, opens_args, opens_target, refusal_of, refused_always, set_if_open, settled, sure_by, sure_for, target_settled}
use Rattle.cacao_view_preflight.specs.Constants.{sure_with, with_constants}
use Rattle.cacao_view_preflight.specs.Laws.{Answers, AnswersAreSure, AreBytesOf, HasConstants}
use Rattle.cacao_view_preflight.specs.Names.{Text}
use Rattle.cacao_view_preflight.proofs.KnownLemmas.{filled_known, tree_known}
use Rattle.cacao_view_preflight.proofs.NameLemmas.{among_changed, among_with, among_without, get_changed, get_with, get_with_other, get_without, get_without_other, other_name}
use Rattle.cacao_view_preflight.proofs.FillLemmas.{IsScalar, by_kind, closed, get-filled, is_object-filled, names-filled, single-filled}
use Rattle.cacao_view_preflight.proofs.TargetLemmas.{skip}
use Rattle.cacao_view_preflight.proofs.RowLemmas.{IsAnswer, error_is_row}
use Rattle.cacao_view_preflight.proofs.TreeLemmas.{settled_tree}
use Rattle.cacao_view_preflight.proofs.AnswerLemmas.{Part, closed_sure, none_rows, open_answers, row_by, row_read}

module _ (go : ReferencesGoOn) (s : Lists) (scope : ℕ) where
  abbrev filling : Data → Data
  filling = filled s scope

  abbrev args_b : Option Data → Option Data
  args_b o = option_map (in_object args_members) o

  abbrev args_q : Option Data → Option Data
  args_q o = Some (option_map_or completed (option_map filling o) (completed (object no_members)))

  -- ---- the parts of the two commands

  abbrev names : Members → Bool
  names ms = are_among command_parts (names_of ms)

  abbrev first_part : Members → Option Part
  first_part ms = option_and_then single (get_member (codes "target") ms)

  abbrev fit_action : Action → Data → Data
  fit_action a = set_if_open (string (action_word a))

  single_settled : (o : Option Data) → option_and_then single (option_map target_settled o) ≡ option_map (λ m. (m.0, named_settled m.0 m.1)) (option_and_then single o)
  single_settled None = refl
  single_settled (Some v) = by (single v) refl
    where
      by : (p : Option Part) → single v ≡ p → single (option_map_or (λ m. one_member m.0 (named_settled m.0 m.1)) p v) ≡ option_map (λ m. (m.0, named_settled m.0 m.1)) p
      by None e = e
      by (Some m) e = refl

  single_of_filled : (o : Option Data) → option_and_then single (option_map filling o) ≡ option_map (λ m. (m.0, filling m.1)) (option_and_then single o)
  single_of_filled None = refl
  single_of_filled (Some v) = single-filled s scope v

  object_stays : (f : Members → Members) (v : Data) → is_object (in_object f v) ≡ is_object v
  object_stays f null = refl
  object_stays f (boolean b) = refl
  object_stays f (number n) = refl
  object_stays f (string t) = refl
  object_stays f (array ds) = refl
  object_stays f (object ms) = refl

  object_completed : (v : Data) → is_object (completed v) ≡ is_object v
  object_completed null = refl
  object_completed (boolean b) = refl
  object_completed (number n) = refl
  object_completed (string t) = refl
  object_completed (array ds) = refl
  object_completed (object ms) = refl

  settled_objects : (o : Option Data) → is_absent_or is_object (args_b o) ≡ is_absent_or is_object o
  settled_objects None = refl
  settled_objects (Some v) = object_stays args_members v

  filled_objects : (o : Option Data) → is_absent_or is_object (args_q o) ≡ is_absent_or is_object o
  filled_objects None = refl
  filled_objects (Some v) = object_completed (filling v) ∙ is_object-filled s scope v

  actuator_filled : (o : Option Data) → is_absent_or is_object (option_map filling o) ≡ is_absent_or is_object o
  actuator_filled None = refl
  actuator_filled (Some v) = is_object-filled s scope v

  away : (k : List ℕ) (ms : Members) → bytes_eq k (codes "command_id") ≡ false → get_member k (without (codes "command_id") ms) ≡ get_member k ms
  away k ms e = get_without_other k (codes "command_id") ms (other_name k (codes "command_id") e)

  row_settled : (a : Action) (ms : Members) → error_of (answer_to (object (command_members a ms)))
      ≡ row_by (names ms) (option_and_then as_str (option_map (fit_action a) (get_member (codes "action") ms))) (option_map (λ m. (m.0, named_settled m.0 m.1)) (first_part ms)) (args_b (get_member (codes "args") ms))
      (is_absent_or is_object (get_member (codes "args") ms)) (is_absent_or is_object (get_member (codes "actuator") ms)) true
  row_settled a ms =
      let c0 : Members = without (codes "command_id") ms in
      let c1 : Members = settled (codes "action") (string (action_word a)) c0 in
      let c2 : Members = changed (codes "target") target_settled c1 in
      let found_args : get_member (codes "args") (command_members a ms) ≡ args_b (get_member (codes "args") ms) =
      get_changed (codes "args") (in_object args_members) c2
      ∙ ap args_b (skip (codes "args") (codes "target") target_settled c1 refl ∙ skip (codes "args") (codes "action") (fit_action a) c0 refl ∙ away (codes "args") ms refl) in
      row_read (object (command_members a ms)) (names ms) (option_and_then as_str (option_map (fit_action a) (get_member (codes "action") ms))) (option_map (λ m. (m.0, named_settled m.0 m.1)) (first_part ms))
      (args_b (get_member (codes "args") ms)) (is_absent_or is_object (get_member (codes "args") ms)) (is_absent_or is_object (get_member (codes "actuator") ms)) true
      (among_changed command_parts (codes "args") (in_object args_members) c2 refl ∙ among_changed command_parts (codes "target") target_settled c1 refl
      ∙ among_changed command_parts (codes "action") (fit_action a) c0 refl ∙ among_without command_parts (codes "command_id") ms refl)
      (ap (option_and_then as_str)
      (skip (codes "action") (codes "args") (in_object args_members) c2 refl ∙ skip (codes "action") (codes "target") target_settled c1 refl ∙ get_changed (codes "action") (fit_action a) c0
      ∙ ap (option_map (fit_action a)) (away (codes "action") ms refl)))
      (ap (option_and_then single)
      (skip (codes "target") (codes "args") (in_object args_members) c2 refl ∙ get_changed (codes "target") target_settled c1
      ∙ ap (option_map target_settled) (skip (codes "target") (codes "action") (fit_action a) c0 refl ∙ away (codes "target") ms refl))
      ∙ single_settled (get_member (codes "target") ms))
      found_args
      (ap (is_absent_or is_object) found_args ∙ settled_objects (get_member (codes "args") ms))
      (ap (is_absent_or is_object)
      (skip (codes "actuator") (codes "args") (in_object args_members) c2 refl ∙ skip (codes "actuator") (codes "target") target_settled c1 refl ∙ skip (codes "actuator") (codes "action") (fit_action a) c0 refl
      ∙ away (codes "actuator") ms refl))
      (ap (is_absent_or is_command_id)
      (skip (codes "command_id") (codes "args") (in_object args_members) c2 refl ∙ skip (codes "command_id") (codes "target") target_settled c1 refl ∙ skip (codes "command_id") (codes "action") (fit_action a) c0 refl
      ∙ get_without (codes "command_id") ms))

  module _ (run issue : ℕ) (named : is_command_id (command_id run issue) ≡ true) where
    one_id : (o : Option Data) → Some (option_map_or (λ _. command_id run issue) o (command_id run issue)) ≡ Some (command_id run issue)
    one_id None = refl
    one_id (Some d) = refl

    row_filled : (ms : Members) → error_of (answer_to (addressed run issue (filling (object ms))))
        ≡ row_by (names ms) (option_and_then as_str (option_map filling (get_member (codes "action") ms))) (option_map (λ m. (m.0, filling m.1)) (first_part ms)) (args_q (get_member (codes "args") ms))
        (is_absent_or is_object (get_member (codes "args") ms)) (is_absent_or is_object (get_member (codes "actuator") ms)) true
    row_filled ms =
        let id : Data = command_id run issue in
        let new : Data = completed (object no_members) in
        let m0 : Members = filled_members s scope ms in
        let m1 : Members = set_member (codes "command_id") id m0 in
        let m2 : Members = with_member (codes "args") completed new m1 in
        let found : (k : List ℕ) → get_member k m0 ≡ option_map filling (get_member k ms) = λ k. get-filled s scope k (object ms) in
        let kept : (k : List ℕ) → bytes_eq k (codes "args") ≡ false → bytes_eq k (codes "command_id") ≡ false → get_member k m2 ≡ option_map filling (get_member k ms) =
        λ k a i. get_with_other k (codes "args") completed new m1 (other_name k (codes "args") a) ∙ get_with_other k (codes "command_id") (λ _. id) id m0 (other_name k (codes "command_id") i) ∙ found k in
        let found_args : get_member (codes "args") m2 ≡ args_q (get_member (codes "args") ms) =
        get_with (codes "args") completed new m1
        ∙ ap (λ (o : Option Data). Some (option_map_or completed o new))
        (get_with_other (codes "args") (codes "command_id") (λ _. id) id m0 (other_name (codes "args") (codes "command_id") refl) ∙ found (codes "args")) in
        row_read (object m2) (names ms) (option_and_then as_str (option_map filling (get_member (codes "action") ms))) (option_map (λ m. (m.0, filling m.1)) (first_part ms)) (args_q (get_member (codes "args") ms))
        (is_absent_or is_object (get_member (codes "args") ms)) (is_absent_or is_object (get_member (codes "actuator") ms)) true
        (among_with command_parts (codes "args") completed new m1 refl ∙ among_with command_parts (codes "command_id") (λ _. id) id m0 refl ∙ ap (are_among command_parts) (names-filled s scope ms))
        (ap (option_and_then as_str) (kept (codes "action") refl refl))
        (ap (option_and_then single) (kept (codes "target") refl refl) ∙ single_of_filled (get_member (codes "target") ms))
        found_args
        (ap (is_absent_or is_object) found_args ∙ filled_objects (get_member (codes "args") ms))
        (ap (is_absent_or is_object) (kept (codes "actuator") refl refl) ∙ actuator_filled (get_member (codes "actuator") ms))
        (ap (is_absent_or is_command_id)
        (get_with_other (codes "command_id") (codes "args") completed new m1 (other_name (codes "command_id") (codes "args") refl) ∙ get_with (codes "command_id") (λ _. id) id m0 ∙ one_id (get_member (codes "command_id") m0))
        ∙ named)

    text_scalar : IsScalar as_str
    text_scalar = record { arrays = λ ds. refl; objects = λ ms. refl }

    closed_text : (fitting : Data) (o : Option Data) → option_map_or is_open o false ≡ false
        → (option_and_then as_str (option_map (set_if_open fitting) o) ≡ option_and_then as_str o) × (option_and_then as_str (option_map filling o) ≡ option_and_then as_str o)
    closed_text fitting None e = (refl, refl)
    closed_text fitting (Some x) e = (ap (λ (b : Bool). as_str (if b then fitting else x)) e, closed go s scope as_str text_scalar x e)

    open_word : (word : List ℕ) (o : Option Data) → option_map_or is_open o false ≡ true → option_and_then as_str (option_map (set_if_open (string word)) o) ≡ Some word
    open_word word None e = absurd (cc)
    open_word word (Some x) e = ap (λ (b : Bool). as_str (if b then string word else x)) e

    sure_object : (ms : Members) (r : Refusal) → error_of (answer_to (command_settled (object ms))) ≡ Some r → IsAnswer (sure_by (object ms) r) (error_of (answer_to (addressed run issue (filling (object ms)))))
    sure_object ms r e =
        subst (IsAnswer (sure_by (object ms) r)) (sym (row_filled ms)) (by (option_map_or is_open (get_member (codes "action") ms) false) refl (sym (row_settled (fitting_action (object ms)) ms) ∙ e))
      where
        by : (b : Bool) → option_map_or is_open (get_member (codes "action") ms) false ≡ b
            → row_by (names ms) (option_and_then as_str (option_map (fit_action (fitting_action (object ms))) (get_member (codes "action") ms))) (option_map (λ m. (m.0, named_settled m.0 m.1)) (first_part ms))
            (args_b (get_member (codes "args") ms)) (is_absent_or is_object (get_member (codes "args") ms)) (is_absent_or is_object (get_member (codes "actuator") ms)) true ≡ Some r
            → IsAnswer (sure_for b (opens_target (object ms)) (opens_args (object ms)) r.text r)
            (row_by (names ms) (option_and_then as_str (option_map filling (get_member (codes "action") ms))) (option_map (λ m. (m.0, filling m.1)) (first_part ms)) (args_q (get_member (codes "args") ms))
            (is_absent_or is_object (get_member (codes "args") ms)) (is_absent_or is_object (get_member (codes "actuator") ms)) true)
        by true o e =
            open_answers go s scope (names ms) (option_and_then as_str (option_map filling (get_member (codes "action") ms))) (first_part ms) (get_member (codes "args") ms) (is_absent_or is_object (get_member (codes "actuator") ms))
            (opens_target (object ms)) (opens_args (object ms)) r
            (sym (ap (λ (text : Option (List ℕ)). row_by (names ms) text (option_map (λ m. (m.0, named_settled m.0 m.1)) (first_part ms)) (args_b (get_member (codes "args") ms))
            (is_absent_or is_object (get_member (codes "args") ms)) (is_absent_or is_object (get_member (codes "actuator") ms)) true)
            (open_word (action_word (fitting_action (object ms))) (get_member (codes "action") ms) o)) ∙ e)
        by false o e =
            let texts = closed_text (string (action_word (fitting_action (object ms)))) (get_member (codes "action") ms) o in
            subst (λ (text : Option (List ℕ)). IsAnswer (sure_for false (opens_target (object ms)) (opens_args (object ms)) r.text r)
            (row_by (names ms) text (option_map (λ m. (m.0, filling m.1)) (first_part ms)) (args_q (get_member (codes "args") ms))
            (is_absent_or is_object (get_member (codes "args") ms)) (is_absent_or is_object (get_member (codes "actuator") ms)) true)) (sym texts.1)
            (closed_sure go s scope (names ms) (option_and_then as_str (get_member (codes "action") ms)) (first_part ms) (get_member (codes "args") ms) (is_absent_or is_object (get_member (codes "actuator") ms)) r
            (sym (ap (λ (text : Option (List ℕ)). row_by (names ms) text (option_map (λ m. (m.0, named_settled m.0 m.1)) (first_part ms)) (args_b (get_member (codes "args") ms))
            (is_absent_or is_object (get_member (codes "args") ms)) (is_absent_or is_object (get_member (codes "actuator") ms)) true) texts.0) ∙ e))

    -- what is no object is no command
    no_object : (d e : Data) (r : Refusal) → is_command d ≡ false → is_command e ≡ false → error_of (answer_to d) ≡ Some r → IsAnswer (sure_by d r) (error_of (answer_to e))
    no_object d e r first second h =
        subst (IsAnswer (sure_by d r)) (sym (error_is_row e))
        (none_rows (is_open_at (codes "action") d) (opens_target d) (opens_args d) (is_command d) (is_command e) (action_of d) (kind_of d) (target_of d) (args_of d) (action_of e) (kind_of e) (target_of e) (args_of e) r
        first second (sym (error_is_row d) ∙ h))

    pub sure_data : (d : Data) (r : Refusal) → error_of (answer_to (command_settled d)) ≡ Some r → IsAnswer (sure_by d r) (error_of (answer_to (addressed run issue (filling d))))
    sure_data null r e = no_object null null r refl refl e
    sure_data (boolean b) r e = no_object (boolean b) (boolean b) r refl refl e
    sure_data (number n) r e = no_object (number n) (number n) r refl refl e
    sure_data (string t) r e = by_kind s scope t (λ d. IsAnswer (sure_by (string t) r) (error_of (answer_to (addressed run issue d)))) (λ n. no_object (string t) (number n) r refl refl e) (λ u. no_object (string t) (string u) r refl refl e)
    sure_data (array ds) r e = no_object (array ds) (array (filled_items s scope ds)) r refl refl e
    sure_data (object ms) r e = sure_object ms r e

-- ---- of bytes

-- the response to a command that is answered so
responds : (sure : Sure) (answer : Result Command Refusal) (rules : List Rule) (moment : ℕ) → IsAnswer sure (error_of answer) → Answers sure (reply_to rules moment answer).0
responds (sure.Answer r) (Ok c) rules moment h = absurd (let wrong : None ≡ Some r = h in cc)
responds (sure.Answer r) (Err q) rules moment h =
    let same : q ≡ r = (let e : Some q ≡ Some r = h in cc) in
    (ap (λ (q : Refusal). q.status) same, ap (λ (q : Refusal). q.text) same)
responds sure.Malformed (Ok c) rules moment (inl h) = absurd (let wrong : None ≡ Some (refusal 400 reason.MalformedTarget) = h in cc)
responds sure.Malformed (Ok c) rules moment (inr h) = absurd (let wrong : None ≡ Some (refusal 400 reason.MalformedArgs) = h in cc)
responds sure.Malformed (Err q) rules moment (inl h) = ap (λ (q : Refusal). q.status) (let same : q ≡ refusal 400 reason.MalformedTarget = (let e : Some q ≡ Some (refusal 400 reason.MalformedTarget) = h in cc) in same)
responds sure.Malformed (Err q) rules moment (inr h) = ap (λ (q : Refusal). q.status) (let same : q ≡ refusal 400 reason.MalformedArgs = (let e : Some q ≡ Some (refusal 400 reason.MalformedArgs) = h in cc) in same)
responds sure.Refused (Ok c) rules moment h = absurd (let wrong : None ≡ Some h.0 = h.1 in cc)
responds sure.Refused (Err q) rules moment h =
    let same : h.0 ≡ q = (let e : Some q ≡ Some h.0 = h.1 in cc) in
    subst (λ (q : Refusal). (q.status ≡ 400) ⊎ (q.status ≡ 501)) same h.2

short : (bytes : List ℕ) (r : Refusal) → refusal_of bytes ≡ Some r → error_of (answer_of bytes) ≡ Some r
short bytes r e = by (nat_le (length bytes) 1048576) e
  where
    by : (b : Bool) → (if b then error_of (answer_of bytes) else None) ≡ Some r → error_of (answer_of bytes) ≡ Some r
    by true e = e
    by false e = absurd (cc)

-- the answer to the canonical text of a tree
read_back : ReadsBack → (d : Data) → IsTree d → answer_of (canon d) ≡ answer_to d
read_back back d t = ap (λ (o : Option Data). answer_to (unwrap_or o null)) (back d t)

-- what is sure of a tree, from what it is at best
known : (d : Data) (o : Option Refusal) (sure : Sure) → option_map (sure_by d) o ≡ Some sure → (r : Refusal) × (o ≡ Some r) × (sure_by d r ≡ sure)
known d None sure e = absurd (cc)
known d (Some r) sure e = (r, refl, let same : Some (sure_by d r) ≡ Some sure = e in cc)

module _ (trees : TextsHaveTrees) (back : ReadsBack) (puts : PutKeepsProfile) (removal : RemovalKeepsProfile) (parts : MembersHaveProfile) (go : ReferencesGoOn) where
  sure_tree : (d : Data) (sure : Sure) (values : Lists) (scope run issue : ℕ) (rules : List Rule) (moment : ℕ) → IsTree d → IsTree (addressed run issue (filled values scope d)) → is_command_id (command_id run issue) ≡ true
      → refused_always d ≡ Some sure → Answers sure (reply rules (canon (addressed run issue (filled values scope d))) moment).0
  sure_tree d sure values scope run issue rules moment t u named e =
      let k = known d (refusal_of (canon (command_settled d))) sure e in
      let best : error_of (answer_to (command_settled d)) ≡ Some k.0 =
      ap error_of (sym (read_back back (command_settled d) (settled_tree puts removal parts d t))) ∙ short (canon (command_settled d)) k.0 k.1 in
      subst (λ (sure : Sure). Answers sure (reply rules (canon (addressed run issue (filled values scope d))) moment).0) k.2
      (subst (λ (a : Result Command Refusal). Answers (sure_by d k.0) (reply_to rules moment a).0) (sym (read_back back (addressed run issue (filled values scope d)) u))
      (responds (sure_by d k.0) (answer_to (addressed run issue (filled values scope d))) rules moment (sure_data go values scope run issue named d k.0 best)))

  -- so it is with the texts of constants in it
  sure_known : (known : Text → Option Var) (d : Data) (sure : Sure) (values : Lists) (scope run issue : ℕ) (rules : List Rule) (moment : ℕ) → HasConstants known values scope → IsTree d → IsTree (addressed run issue (filled values scope d))
      → is_command_id (command_id run issue) ≡ true → sure_with known d ≡ Some sure → Answers sure (reply rules (canon (addressed run issue (filled values scope d))) moment).0
  sure_known known d sure values scope run issue rules moment has t u named e =
      let same : filled values scope (with_constants known d) ≡ filled values scope d = filled_known go known values scope has d in
      subst (λ (x : Data). Answers sure (reply rules (canon (addressed run issue x)) moment).0) same
      (sure_tree (with_constants known d) sure values scope run issue rules moment (tree_known go known values scope has d t) (subst (λ (x : Data). IsTree (addressed run issue x)) (sym same) u) named e)

  sure_content : (known : Text → Option Var) (content bytes : List ℕ) (sure : Sure) (rules : List Rule) (moment : ℕ) → option_and_then (sure_with known) (tree content) ≡ Some sure → AreBytesOf known content bytes
      → Answers sure (reply rules bytes moment).0
  sure_content known content bytes sure rules moment e w = by (tree content) refl e w.are
    where
      by : (o : Option Data) → tree content ≡ o → option_and_then (sure_with known) o ≡ Some sure → option_map (λ d. canon (addressed w.run w.issue (filled w.values w.scope d))) o ≡ Some bytes → Answers sure (reply rules bytes moment).0
      by None r e f = absurd (let wrong : None ≡ Some sure = e in cc)
      by (Some d) r e f =
          let same : canon (addressed w.run w.issue (filled w.values w.scope d)) ≡ bytes = (let g : Some (canon (addressed w.run w.issue (filled w.values w.scope d))) ≡ Some bytes = f in cc) in
          subst (λ (bytes : List ℕ). Answers sure (reply rules bytes moment).0) same
          (sure_known known d sure w.values w.scope w.run w.issue rules moment w.constants (trees content d r) (w.is_tree d r) w.is_named e)

  sure_command : AnswersAreSure
  sure_command known command sure content bytes rules moment e is w = by (is_manual command) e
    where
      by : (b : Bool) → (if b then None else option_and_then (sure_with known) (option_and_then tree command.content)) ≡ Some sure → Answers sure (reply rules bytes moment).0
      by true e = absurd (let wrong : None ≡ Some sure = e in cc)
      by false e =
          sure_content known content bytes sure rules moment (sym (ap (λ (o : Option (List ℕ)). option_and_then (sure_with known) (option_and_then tree o)) is) ∙ e) w

-- the law, from the laws of trees, canonical text and references
pub answers_are_sure : TextsHaveTrees → ReadsBack → PutKeepsProfile → RemovalKeepsProfile → MembersHaveProfile → ReferencesGoOn → AnswersAreSure
answers_are_sure trees back puts removal parts go = sure_command trees back puts removal parts go
