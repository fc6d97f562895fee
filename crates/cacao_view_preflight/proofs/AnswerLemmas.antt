-- What is sure of the row that decides, for a command that is filled, from the one whose open texts are set to what fits.
use Rattle.std.proofs.Common.{◌≡◌, ◌∙◌, refl, sym, ap, subst, ℕ, Bool, true, false, ◌&&◌, List, codes, Option, Some, None}
use Rattle.std.specs.Prelude.{option_map, option_and_then, is_some, if◌then◌else◌}
use Rattle.std.specs.Option.{option_map_or}
use Rattle.serde_json.specs.Data.{Data, object, no_members}
use Rattle.serde_json.specs.Find.{get}
use Rattle.cacao_vars.specs.References.{ReferencesGoOn}
use Rattle.flow_core_rules.specs.State.{Lists}
use Rattle.flow_core_rules.specs.Filled.{completed, filled}
use Rattle.oc2_msg_targets.specs.declared.actions.Action.{Action}
use Rattle.oc2_msg_targets.specs.declared.actions.Action.TheVariants as action
use Rattle.oc2_msg_targets.specs.declared.kinds.TargetKind.{TargetKind}
use Rattle.oc2_msg_targets.specs.declared.kinds.TargetKind.TheVariants as kind
use Rattle.oc2_msg_targets.specs.declared.targets.Target.{Target}
use Rattle.oc2_msg_targets.specs.Parts.{has_only, is_absent_or, is_object}
use Rattle.oc2_msg_targets.specs.Targets.{target_in}
use Rattle.oc2_msg_targets.specs.Words.{action_named, action_word, adds_rule, is_deny, kind_named, takes}
use Rattle.oc2_msg.specs.declared.arguments.Args.{Args}
use Rattle.oc2_msg.specs.declared.refusals.Refusal.{Refusal}
use Rattle.oc2_msg.specs.declared.reasons.Reason.TheVariants as reason
use Rattle.oc2_msg.specs.Args.{args_in, is_unserved}
use Rattle.oc2_msg.specs.Commands.{action_text, answer_to, command_parts, is_command_id, refusal, taken_by, target_part}
use Rattle.cacao_view_preflight.specs.declared.sure.Sure.{Sure}
use Rattle.cacao_view_preflight.specs.declared.sure.Sure.TheVariants as sure
use Rattle.cacao_view_preflight.specs.Settled.{action_for, args_members, error_of, in_object, named_settled, opens_named, opens_values, opens_value, sure_for, value_settled}
use Rattle.cacao_view_preflight.proofs.KindLemmas.{none_value, same_value}
use Rattle.cacao_view_preflight.proofs.ArgLemmas.{FollowsArgs}
use Rattle.cacao_view_preflight.proofs.ArgFollow.{follow_args, same_filled_args}
use Rattle.cacao_view_preflight.proofs.RowLemmas.{IsAnswer, closed_rows, error_is_row, open_rows, refused_row, row_of, unserved_row}

-- ---- what decides, by what is read of a command

abbrev pub Part : Type 0
Part = List ℕ × Data

abbrev pub kind_by : Option Action → Option Part → Option TargetKind
kind_by a t = option_and_then (λ x. option_and_then (λ (p : Part). option_and_then (λ k. taken_by x k) (kind_named p.0)) t) a

abbrev pub target_by : Option TargetKind → Option Part → Option Target
target_by k t = option_and_then (λ k. option_and_then (λ (p : Part). target_in k p.1) t) k

abbrev pub args_from : Option Action → Option Data → Option Args
args_from a o = option_and_then (λ x. args_in (is_deny x) o) a

abbrev pub is_by : Bool → Option (List ℕ) → Option Part → Bool → Bool → Bool → Bool
is_by only text t args actuator id = only && is_some text && is_some t && args && actuator && id

abbrev pub row_by : Bool → Option (List ℕ) → Option Part → Option Data → Bool → Bool → Bool → Option Refusal
row_by only text t o args actuator id =
    row_of (is_by only text t args actuator id) (option_and_then action_named text) (kind_by (option_and_then action_named text) t)
    (target_by (kind_by (option_and_then action_named text) t) t) (args_from (option_and_then action_named text) o)

-- the same of a command, by what is read of its parts
pub row_read : (d : Data) (only : Bool) (text : Option (List ℕ)) (t : Option Part) (o : Option Data) (args actuator id : Bool) → has_only command_parts d ≡ only → action_text d ≡ text → target_part d ≡ t
    → get (codes "args") d ≡ o → is_absent_or is_object (get (codes "args") d) ≡ args → is_absent_or is_object (get (codes "actuator") d) ≡ actuator
    → is_absent_or is_command_id (get (codes "command_id") d) ≡ id → error_of (answer_to d) ≡ row_by only text t o args actuator id
row_read d only text t o args actuator id e1 e2 e3 e4 e5 e6 e7 = error_is_row d ∙ by (has_only command_parts d) (action_text d) (target_part d) (get (codes "args") d)
    (is_absent_or is_object (get (codes "args") d)) (is_absent_or is_object (get (codes "actuator") d)) (is_absent_or is_command_id (get (codes "command_id") d)) e1 e2 e3 e4 e5 e6 e7
  where
    by : (a : Bool) (b : Option (List ℕ)) (c : Option Part) (d : Option Data) (e f g : Bool) → a ≡ only → b ≡ text → c ≡ t → d ≡ o → e ≡ args → f ≡ actuator → g ≡ id → row_by a b c d e f g ≡ row_by only text t o args actuator id
    by a b c d e f g e1 e2 e3 e4 e5 e6 e7 = rw (e1, e2, e3, e4, e5, e6, e7) refl

not_command : (only : Bool) (text : Option (List ℕ)) (args actuator id : Bool) → is_by only text None args actuator id ≡ false
not_command true (Some t) args actuator id = refl
not_command true None args actuator id = refl
not_command false text args actuator id = refl

no_args_object : (only : Bool) (text : Option (List ℕ)) (t : Option Part) (actuator id : Bool) → is_by only text t false actuator id ≡ false
no_args_object only text t actuator id = by (only && is_some text && is_some t)
  where
    by : (b : Bool) → (b && false && actuator && id) ≡ false
    by true = refl
    by false = refl

-- ---- what is no command

false_rows : (opens target args : Bool) (a : Option Action) (k : Option TargetKind) (t : Option Target) (x : Option Args) (b : Option Action) (l : Option TargetKind) (u : Option Target) (y : Option Args) (r : Refusal)
    → row_of false a k t x ≡ Some r → IsAnswer (sure_for opens target args r.text r) (row_of false b l u y)
false_rows opens target args a k t x b l u y r e =
    let same : refusal 400 reason.MalformedCommand ≡ r = (let s : Some (refusal 400 reason.MalformedCommand) ≡ Some r = e in cc) in
    subst (λ (r : Refusal). IsAnswer (sure_for opens target args r.text r) (Some (refusal 400 reason.MalformedCommand))) same refl

-- the same where that is known
pub none_rows : (opens target args is js : Bool) (a : Option Action) (k : Option TargetKind) (t : Option Target) (x : Option Args) (b : Option Action) (l : Option TargetKind) (u : Option Target) (y : Option Args) (r : Refusal)
    → is ≡ false → js ≡ false → row_of is a k t x ≡ Some r → IsAnswer (sure_for opens target args r.text r) (row_of js b l u y)
none_rows opens target args is js a k t x b l u y r first second e =
    subst (λ (j : Bool). IsAnswer (sure_for opens target args r.text r) (row_of j b l u y)) (sym second)
    (false_rows opens target args a k t x b l u y r (ap (λ (i : Bool). row_of i a k t x) (sym first) ∙ e))

module _ (go : ReferencesGoOn) (s : Lists) (scope : ℕ) where
  abbrev filling : Data → Data
  filling = filled s scope

  -- ---- the target

  abbrev target_at : Option Action → Option TargetKind → Data → Option Target
  target_at a o d = option_and_then (λ k. target_in k d) (option_and_then (λ x. option_and_then (λ k. taken_by x k) o) a)

  abbrev value_at : Option TargetKind → Data → Data
  value_at o v = option_map_or (λ k. value_settled k v) o v

  target_none : (a : Option Action) (o : Option TargetKind) (v : Data) → target_at a o (value_at o v) ≡ None → target_at a o (filling v) ≡ None
  target_none None o v e = refl
  target_none (Some x) None v e = refl
  target_none (Some x) (Some k) v e = by (takes x k) e
    where
      by : (b : Bool) → option_and_then (λ l. target_in l (value_settled k v)) (if b then Some k else None) ≡ None → option_and_then (λ l. target_in l (filling v)) (if b then Some k else None) ≡ None
      by true e = none_value go s scope k v e
      by false e = refl

  target_same : (a : Option Action) (o : Option TargetKind) (v : Data) → option_map_or (λ k. opens_value k v) o false ≡ false → is_some (target_at a o (filling v)) ≡ is_some (target_at a o (value_at o v))
  target_same None o v e = refl
  target_same (Some x) None v e = refl
  target_same (Some x) (Some k) v e = by (takes x k)
    where
      by : (b : Bool) → is_some (option_and_then (λ k. target_in k (filling v)) (if b then Some k else None)) ≡ is_some (option_and_then (λ l. target_in l (value_settled k v)) (if b then Some k else None))
      by true = ap is_some (same_value go s scope k v e)
      by false = refl

  -- ---- the arguments

  abbrev args_b : Option Data → Option Data
  args_b o = option_map (in_object args_members) o

  abbrev args_q : Option Data → Option Data
  args_q o = Some (option_map_or completed (option_map filling o) (completed (object no_members)))

  args_follow : (a : Option Action) (o : Option Data) → is_absent_or is_object o ≡ true → FollowsArgs (args_from a (args_b o)) (args_from a (args_q o))
  args_follow None o i = ((λ e. refl), (λ x y e f adds. absurd (let wrong : None ≡ Some x = e in cc)))
  args_follow (Some c) o i = follow_args go s scope (is_deny c) (is_deny c) (λ e. e) o i

  args_same : (a : Option Action) (o : Option Data) → option_map_or opens_values o false ≡ false → is_absent_or is_object o ≡ true → is_some (args_from a (args_q o)) ≡ is_some (args_from a (args_b o))
  args_same None o e i = refl
  args_same (Some c) o e i = same_filled_args go s scope (is_deny c) o e i

  -- ---- the action is not open

  pub closed_sure : (only : Bool) (text : Option (List ℕ)) (t : Option Part) (o : Option Data) (actuator : Bool) (r : Refusal)
      → row_by only text (option_map (λ m. (m.0, named_settled m.0 m.1)) t) (args_b o) (is_absent_or is_object o) actuator true ≡ Some r
      → IsAnswer (sure_for false (option_map_or (λ m. opens_named m.0 m.1) t false) (option_map_or opens_values o false) r.text r)
      (row_by only text (option_map (λ m. (m.0, filling m.1)) t) (args_q o) (is_absent_or is_object o) actuator true)
  closed_sure only text None o actuator r e =
      none_rows false false (option_map_or opens_values o false) (is_by only text None (is_absent_or is_object o) actuator true) (is_by only text None (is_absent_or is_object o) actuator true) _ _ _ _ _ _ _ _ r
      (not_command only text (is_absent_or is_object o) actuator true) (not_command only text (is_absent_or is_object o) actuator true) e
  closed_sure only text (Some p) o actuator r e = by (is_absent_or is_object o) refl e
    where
      by : (b : Bool) → is_absent_or is_object o ≡ b → row_by only text (Some (p.0, named_settled p.0 p.1)) (args_b o) b actuator true ≡ Some r
          → IsAnswer (sure_for false (opens_named p.0 p.1) (option_map_or opens_values o false) r.text r) (row_by only text (Some (p.0, filling p.1)) (args_q o) b actuator true)
      by false i e =
          none_rows false (opens_named p.0 p.1) (option_map_or opens_values o false) (is_by only text (Some (p.0, named_settled p.0 p.1)) false actuator true) (is_by only text (Some (p.0, filling p.1)) false actuator true) _ _ _ _ _ _ _ _ r
          (no_args_object only text (Some (p.0, named_settled p.0 p.1)) actuator true) (no_args_object only text (Some (p.0, filling p.1)) actuator true) e
      by true i e =
          let a : Option Action = option_and_then action_named text in
          closed_rows (is_by only text (Some (p.0, filling p.1)) true actuator true) a (kind_by a (Some (p.0, filling p.1)))
          (target_at a (kind_named p.0) (named_settled p.0 p.1)) (target_at a (kind_named p.0) (filling p.1)) (args_from a (args_b o)) (args_from a (args_q o))
          (opens_named p.0 p.1) (option_map_or opens_values o false) r
          (target_none a (kind_named p.0) p.1) (target_same a (kind_named p.0) p.1) (args_follow a o i) (λ c. args_same a o c i) e

  -- ---- the action is open

  takes_fitting : (k : TargetKind) → takes (action_for k) k ≡ true
  takes_fitting kind.Ipv4Net = refl
  takes_fitting kind.Ipv6Net = refl
  takes_fitting kind.Ipv4Connection = refl
  takes_fitting kind.Ipv6Connection = refl
  takes_fitting kind.RuleNumber = refl
  takes_fitting kind.File = refl
  takes_fitting kind.Features = refl

  adds_fitting : (c : Action) (k : TargetKind) → takes c k ≡ true → (adds_rule c ≡ adds_rule (action_for k)) × (is_deny c ≡ true → is_deny (action_for k) ≡ true)
  adds_fitting action.Allow kind.Ipv4Net e = (refl, (λ d. absurd (cc)))
  adds_fitting action.Allow kind.Ipv6Net e = (refl, (λ d. absurd (cc)))
  adds_fitting action.Allow kind.Ipv4Connection e = (refl, (λ d. absurd (cc)))
  adds_fitting action.Allow kind.Ipv6Connection e = (refl, (λ d. absurd (cc)))
  adds_fitting action.Allow kind.RuleNumber e = absurd (cc)
  adds_fitting action.Allow kind.File e = absurd (cc)
  adds_fitting action.Allow kind.Features e = absurd (cc)
  adds_fitting action.Deny kind.Ipv4Net e = (refl, (λ d. refl))
  adds_fitting action.Deny kind.Ipv6Net e = (refl, (λ d. refl))
  adds_fitting action.Deny kind.Ipv4Connection e = (refl, (λ d. refl))
  adds_fitting action.Deny kind.Ipv6Connection e = (refl, (λ d. refl))
  adds_fitting action.Deny kind.RuleNumber e = absurd (cc)
  adds_fitting action.Deny kind.File e = absurd (cc)
  adds_fitting action.Deny kind.Features e = absurd (cc)
  adds_fitting action.Delete kind.Ipv4Net e = absurd (cc)
  adds_fitting action.Delete kind.Ipv6Net e = absurd (cc)
  adds_fitting action.Delete kind.Ipv4Connection e = absurd (cc)
  adds_fitting action.Delete kind.Ipv6Connection e = absurd (cc)
  adds_fitting action.Delete kind.RuleNumber e = (refl, (λ d. absurd (cc)))
  adds_fitting action.Delete kind.File e = absurd (cc)
  adds_fitting action.Delete kind.Features e = absurd (cc)
  adds_fitting action.Update kind.Ipv4Net e = absurd (cc)
  adds_fitting action.Update kind.Ipv6Net e = absurd (cc)
  adds_fitting action.Update kind.Ipv4Connection e = absurd (cc)
  adds_fitting action.Update kind.Ipv6Connection e = absurd (cc)
  adds_fitting action.Update kind.RuleNumber e = absurd (cc)
  adds_fitting action.Update kind.File e = (refl, (λ d. absurd (cc)))
  adds_fitting action.Update kind.Features e = absurd (cc)
  adds_fitting action.Query kind.Ipv4Net e = absurd (cc)
  adds_fitting action.Query kind.Ipv6Net e = absurd (cc)
  adds_fitting action.Query kind.Ipv4Connection e = absurd (cc)
  adds_fitting action.Query kind.Ipv6Connection e = absurd (cc)
  adds_fitting action.Query kind.RuleNumber e = absurd (cc)
  adds_fitting action.Query kind.File e = absurd (cc)
  adds_fitting action.Query kind.Features e = (refl, (λ d. absurd (cc)))

  named_back : (a : Action) → action_named (action_word a) ≡ Some a
  named_back action.Allow = refl
  named_back action.Deny = refl
  named_back action.Delete = refl
  named_back action.Update = refl
  named_back action.Query = refl

  told : (q r : Refusal) → Some q ≡ Some r → q ≡ r
  told q r e = cc

  -- all but the first row leave the answer open
  open_sure : (a : Action) (k : Option TargetKind) (t : Option Target) (x : Option Args) (target args : Bool) (r : Refusal) → row_of true (Some a) k t x ≡ Some r → sure_for true target args r.text r ≡ sure.Refused
  open_sure a None t x target args r e = subst (λ (r : Refusal). sure_for true target args r.text r ≡ sure.Refused) (told (refusal 501 reason.UnsupportedPair) r e) refl
  open_sure a (Some k) None x target args r e = subst (λ (r : Refusal). sure_for true target args r.text r ≡ sure.Refused) (told (refusal 400 reason.MalformedTarget) r e) refl
  open_sure a (Some k) (Some t) None target args r e = subst (λ (r : Refusal). sure_for true target args r.text r ≡ sure.Refused) (told (refusal 400 reason.MalformedArgs) r e) refl
  open_sure a (Some k) (Some t) (Some x) target args r e =
      subst (λ (r : Refusal). sure_for true target args r.text r ≡ sure.Refused) ((unserved_row (is_unserved (adds_rule a) x) r e).1) refl

  fewer_parts : (only : Bool) (text : Option (List ℕ)) (b c : Bool) (word : List ℕ) (p q : Part) → is_by only (Some word) (Some p) b c true ≡ false → is_by only text (Some q) b c true ≡ false
  fewer_parts false text b c word p q e = refl
  fewer_parts true None b c word p q e = refl
  fewer_parts true (Some t) b c word p q e = e

  -- the answers where the command has its parts, and its target is of this kind
  open_kind : (o : Option TargetKind) (c : Action) (v : Data) (args : Option Data) (target opens : Bool) (r : Refusal) → is_absent_or is_object args ≡ true
      → row_of true (Some (option_map_or action_for o action.Deny)) (option_and_then (λ k. taken_by (option_map_or action_for o action.Deny) k) o)
      (target_at (Some (option_map_or action_for o action.Deny)) o (value_at o v)) (args_from (Some (option_map_or action_for o action.Deny)) (args_b args)) ≡ Some r
      → IsAnswer sure.Refused (row_of true (Some c) (option_and_then (λ k. taken_by c k) o) (target_at (Some c) o (filling v)) (args_from (Some c) (args_q args)))
  open_kind None c v args target opens r i e = refused_row true (Some c) None None (args_from (Some c) (args_q args)) refl
  open_kind (Some k) c v args target opens r i e = by (takes c k) refl
    where
      by : (b : Bool) → takes c k ≡ b → IsAnswer sure.Refused (row_of true (Some c) (if b then Some k else None) (option_and_then (λ k. target_in k (filling v)) (if b then Some k else None)) (args_from (Some c) (args_q args)))
      by false e = refused_row true (Some c) None None (args_from (Some c) (args_q args)) refl
      by true t =
          let fits = adds_fitting c k t in
          open_rows (action_for k) c k (target_in k (value_settled k v)) (target_in k (filling v)) (args_from (Some (action_for k)) (args_b args)) (args_from (Some c) (args_q args)) target opens r
          fits.0 (none_value go s scope k v) (follow_args go s scope (is_deny (action_for k)) (is_deny c) fits.1 args i)
          (sym (ap (λ (b : Bool). row_of true (Some (action_for k)) (if b then Some k else None) (option_and_then (λ k'. target_in k' (value_settled k v)) (if b then Some k else None)) (args_from (Some (action_for k)) (args_b args))) (takes_fitting k)) ∙ e)

  -- with no action the command is refused
  no_action : (is : Bool) (k : Option TargetKind) (t : Option Target) (x : Option Args) → is_some (row_of is None k t x) ≡ true
  no_action true k t x = refl
  no_action false k t x = refl

  abbrev fitting_for : List ℕ → Action
  fitting_for name = option_map_or action_for (kind_named name) action.Deny

  abbrev settled_row : Bool → Option Action → List ℕ → Data → Option Data → Option Refusal
  settled_row is a name v o =
      row_of is a (kind_by a (Some (name, named_settled name v))) (target_by (kind_by a (Some (name, named_settled name v))) (Some (name, named_settled name v))) (args_from a (args_b o))

  abbrev filled_row : Bool → Option Action → List ℕ → Data → Option Data → Option Refusal
  filled_row is a name v o =
      row_of is a (kind_by a (Some (name, filling v))) (target_by (kind_by a (Some (name, filling v))) (Some (name, filling v))) (args_from a (args_q o))

  open_named : (is : Bool) (a : Option Action) (name : List ℕ) (v : Data) (o : Option Data) (target opens : Bool) (r : Refusal) → is ≡ true → is_absent_or is_object o ≡ true
      → settled_row true (Some (fitting_for name)) name v o ≡ Some r → IsAnswer sure.Refused (filled_row is a name v o)
  open_named is None name v o target opens r j i e = refused_row is None None None None (no_action is None None None)
  open_named is (Some c) name v o target opens r j i e =
      subst (λ (is : Bool). IsAnswer sure.Refused (filled_row is (Some c) name v o)) (sym j) (open_kind (kind_named name) c v o target opens r i e)

  open_text : (only : Bool) (text : Option (List ℕ)) (word : List ℕ) (name : List ℕ) (v : Data) (o : Option Data) (actuator target opens : Bool) (r : Refusal)
      → is_by only (Some word) (Some (name, v)) true actuator true ≡ true → is_absent_or is_object o ≡ true → settled_row true (Some (fitting_for name)) name v o ≡ Some r
      → IsAnswer sure.Refused (row_by only text (Some (name, filling v)) (args_q o) true actuator true)
  open_text only None word name v o actuator target opens r j i e =
      refused_row (is_by only None (Some (name, filling v)) true actuator true) None None None None (no_action (is_by only None (Some (name, filling v)) true actuator true) None None None)
  open_text only (Some w) word name v o actuator target opens r j i e =
      open_named (is_by only (Some w) (Some (name, filling v)) true actuator true) (action_named w) name v o target opens r j i e

  open_object : (only : Bool) (text : Option (List ℕ)) (name : List ℕ) (v : Data) (o : Option Data) (actuator target opens : Bool) (r : Refusal) → is_absent_or is_object o ≡ true
      → row_by only (Some (action_word (fitting_for name))) (Some (name, named_settled name v)) (args_b o) true actuator true ≡ Some r
      → IsAnswer (sure_for true target opens r.text r) (row_by only text (Some (name, filling v)) (args_q o) true actuator true)
  open_object only text name v o actuator target opens r i e = by (is_by only (Some (action_word (fitting_for name))) (Some (name, named_settled name v)) true actuator true) refl
    where
      by : (b : Bool) → is_by only (Some (action_word (fitting_for name))) (Some (name, named_settled name v)) true actuator true ≡ b
          → IsAnswer (sure_for true target opens r.text r) (row_by only text (Some (name, filling v)) (args_q o) true actuator true)
      by false j =
          none_rows true target opens (is_by only (Some (action_word (fitting_for name))) (Some (name, named_settled name v)) true actuator true) (is_by only text (Some (name, filling v)) true actuator true) _ _ _ _ _ _ _ _ r
          j (fewer_parts only text true actuator (action_word (fitting_for name)) (name, named_settled name v) (name, filling v) j) e
      by true j =
          let one : settled_row true (Some (fitting_for name)) name v o ≡ Some r =
          sym (ap (λ (is : Bool). settled_row is (action_named (action_word (fitting_for name))) name v o) j ∙ ap (λ (a : Option Action). settled_row true a name v o) (named_back (fitting_for name))) ∙ e in
          subst (λ (sure : Sure). IsAnswer sure (row_by only text (Some (name, filling v)) (args_q o) true actuator true))
          (sym (open_sure (fitting_for name) (kind_by (Some (fitting_for name)) (Some (name, named_settled name v)))
          (target_by (kind_by (Some (fitting_for name)) (Some (name, named_settled name v))) (Some (name, named_settled name v))) (args_from (Some (fitting_for name)) (args_b o)) target opens r one))
          (open_text only text (action_word (fitting_for name)) name v o actuator target opens r j i one)

  pub open_answers : (only : Bool) (text : Option (List ℕ)) (t : Option Part) (o : Option Data) (actuator target opens : Bool) (r : Refusal)
      → row_by only (Some (action_word (option_map_or action_for (option_and_then (λ m. kind_named m.0) t) action.Deny))) (option_map (λ m. (m.0, named_settled m.0 m.1)) t) (args_b o) (is_absent_or is_object o) actuator true ≡ Some r
      → IsAnswer (sure_for true target opens r.text r) (row_by only text (option_map (λ m. (m.0, filling m.1)) t) (args_q o) (is_absent_or is_object o) actuator true)
  open_answers only text None o actuator target opens r e =
      let a : Option Action = action_named (action_word action.Deny) in
      let c : Option Action = option_and_then action_named text in
      none_rows true target opens (is_by only (Some (action_word action.Deny)) None (is_absent_or is_object o) actuator true) (is_by only text None (is_absent_or is_object o) actuator true)
      a (kind_by a None) (target_by (kind_by a None) None) (args_from a (args_b o)) c (kind_by c None) (target_by (kind_by c None) None) (args_from c (args_q o)) r
      (not_command only (Some (action_word action.Deny)) (is_absent_or is_object o) actuator true) (not_command only text (is_absent_or is_object o) actuator true) e
  open_answers only text (Some p) o actuator target opens r e = by (is_absent_or is_object o) refl e
    where
      by : (b : Bool) → is_absent_or is_object o ≡ b → row_by only (Some (action_word (fitting_for p.0))) (Some (p.0, named_settled p.0 p.1)) (args_b o) b actuator true ≡ Some r
          → IsAnswer (sure_for true target opens r.text r) (row_by only text (Some (p.0, filling p.1)) (args_q o) b actuator true)
      by false i e =
          none_rows true target opens (is_by only (Some (action_word (fitting_for p.0))) (Some (p.0, named_settled p.0 p.1)) false actuator true) (is_by only text (Some (p.0, filling p.1)) false actuator true) _ _ _ _ _ _ _ _ r
          (no_args_object only (Some (action_word (fitting_for p.0))) (Some (p.0, named_settled p.0 p.1)) actuator true) (no_args_object only text (Some (p.0, filling p.1)) actuator true) e
      by true i e = open_object only text p.0 p.1 o actuator target opens r i e
