-- Which row of the table of refusals decides, by what is read of a command.
use Rattle.std.proofs.Common.{◌≡◌, ◌⊎◌, inl, inr, ◌∙◌, refl, sym, ap, subst, Bool, true, false, not, ◌||◌, [], ◌∷◌, Option, Some, None}
use Rattle.std.specs.Prelude.{is_none, is_some, if◌then◌else◌}
use Rattle.serde_json.specs.Data.{Data}
use Rattle.oc2_msg_targets.specs.declared.actions.Action.{Action}
use Rattle.oc2_msg_targets.specs.declared.kinds.TargetKind.{TargetKind}
use Rattle.oc2_msg_targets.specs.declared.targets.Target.{Target}
use Rattle.oc2_msg_targets.specs.Words.{adds_rule}
use Rattle.oc2_msg.specs.declared.arguments.Args.{Args}
use Rattle.oc2_msg.specs.declared.commands.Command.{Command}
use Rattle.oc2_msg.specs.declared.refusals.Refusal.{Refusal}
use Rattle.oc2_msg.specs.declared.reasons.Reason.TheVariants as reason
use Rattle.oc2_msg.specs.Args.{is_unserved}
use Rattle.oc2_msg.specs.Commands.{action_of, answer_to, answered, args_of, command_of, first_row, has_unserved, is_command, kind_of, refusal, rows, target_of}
use Rattle.oc2_msg.proofs.CommandLemmas.{has_command}
use Rattle.cacao_view_preflight.specs.declared.sure.Sure.{Sure}
use Rattle.cacao_view_preflight.specs.declared.sure.Sure.TheVariants as sure
use Rattle.cacao_view_preflight.specs.Settled.{error_of, sure_for}
use Rattle.cacao_view_preflight.proofs.ArgLemmas.{FollowsArgs}

abbrev pub row_of : Bool → Option Action → Option TargetKind → Option Target → Option Args → Option Refusal
row_of is a k t args =
    first_row ((not is, refusal 400 reason.MalformedCommand) ∷ (is_none a, refusal 501 reason.UnsupportedAction)
    ∷ (is_none k, refusal 501 reason.UnsupportedPair) ∷ (is_none t, refusal 400 reason.MalformedTarget)
    ∷ (is_none args, refusal 400 reason.MalformedArgs) ∷ (has_unserved a args, refusal 501 reason.UnsupportedArgs) ∷ [])

some_command : (found : Option Command) (other : Refusal) → is_some found ≡ true → error_of (answered None found) ≡ None
some_command (Some c) other e = refl
some_command None other e = absurd (cc)

-- what is answered is the row that decides
pub error_is_row : (d : Data) → error_of (answer_to d) ≡ row_of (is_command d) (action_of d) (kind_of d) (target_of d) (args_of d)
error_is_row d = by (first_row (rows d)) refl
  where
    by : (o : Option Refusal) → first_row (rows d) ≡ o → error_of (answered o (command_of d)) ≡ o
    by (Some r) e = refl
    by None e = some_command (command_of d) (refusal 400 reason.MalformedCommand) (has_command (is_command d) (action_of d) (kind_of d) (target_of d) (args_of d) e)

-- what is sure of the row that decides
abbrev pub IsAnswer : Sure → Option Refusal → Type 0
IsAnswer (sure.Answer r) o = o ≡ Some r
IsAnswer sure.Malformed o = (o ≡ Some (refusal 400 reason.MalformedTarget)) ⊎ (o ≡ Some (refusal 400 reason.MalformedArgs))
IsAnswer sure.Refused o = (r : Refusal) × (o ≡ Some r) × ((r.status ≡ 400) ⊎ (r.status ≡ 501))

-- what is sure of the refusal that was found
found : (P : Refusal → Type 0) (r r' : Refusal) → Some r ≡ Some r' → P r → P r'
found P r r' e h = subst P (let same : Some r ≡ Some r' = e in cc) h

pub unserved_row : (b : Bool) (r : Refusal) → (if b then Some (refusal 501 reason.UnsupportedArgs) else None) ≡ Some r → (b ≡ true) × (refusal 501 reason.UnsupportedArgs ≡ r)
unserved_row true r e = (refl, let same : Some (refusal 501 reason.UnsupportedArgs) ≡ Some r = e in cc)
unserved_row false r e = absurd (cc)

-- ---- the action is not open

unserved_sure : (b c target args : Bool) (r : Refusal) → c ≡ b → (if b then Some (refusal 501 reason.UnsupportedArgs) else None) ≡ Some r
    → IsAnswer (sure_for false target args r.text r) (if c then Some (refusal 501 reason.UnsupportedArgs) else None)
unserved_sure b c target args r same e =
    let p = unserved_row b r e in
    subst (λ (r : Refusal). IsAnswer (sure_for false target args r.text r) (if c then Some (refusal 501 reason.UnsupportedArgs) else None)) p.1
    (subst (λ (c : Bool). IsAnswer (sure_for false target args reason.UnsupportedArgs (refusal 501 reason.UnsupportedArgs)) (if c then Some (refusal 501 reason.UnsupportedArgs) else None)) (sym (same ∙ p.0))
    (by (target || args)))
  where
    by : (b : Bool) → IsAnswer (if b then sure.Refused else sure.Answer (refusal 501 reason.UnsupportedArgs)) (Some (refusal 501 reason.UnsupportedArgs))
    by true = (refusal 501 reason.UnsupportedArgs, refl, inr refl)
    by false = refl

malformed_args : (target : Bool) → IsAnswer (if target then sure.Malformed else sure.Answer (refusal 400 reason.MalformedArgs)) (Some (refusal 400 reason.MalformedArgs))
malformed_args true = inr refl
malformed_args false = refl

pub closed_rows : (is : Bool) (a : Option Action) (k : Option TargetKind) (t u : Option Target) (x y : Option Args) (target args : Bool) (r : Refusal) → (t ≡ None → u ≡ None) → (target ≡ false → is_some u ≡ is_some t)
    → FollowsArgs x y → (args ≡ false → is_some y ≡ is_some x) → row_of is a k t x ≡ Some r → IsAnswer (sure_for false target args r.text r) (row_of is a k u y)
closed_rows false a k t u x y target args r ht st hx sx e = found (λ r. IsAnswer (sure_for false target args r.text r) (Some (refusal 400 reason.MalformedCommand))) (refusal 400 reason.MalformedCommand) r e refl
closed_rows true None k t u x y target args r ht st hx sx e = found (λ r. IsAnswer (sure_for false target args r.text r) (Some (refusal 501 reason.UnsupportedAction))) (refusal 501 reason.UnsupportedAction) r e refl
closed_rows true (Some a) None t u x y target args r ht st hx sx e = found (λ r. IsAnswer (sure_for false target args r.text r) (Some (refusal 501 reason.UnsupportedPair))) (refusal 501 reason.UnsupportedPair) r e refl
closed_rows true (Some a) (Some k) None None x y target args r ht st hx sx e = found (λ r. IsAnswer (sure_for false target args r.text r) (Some (refusal 400 reason.MalformedTarget))) (refusal 400 reason.MalformedTarget) r e refl
closed_rows true (Some a) (Some k) None (Some u) x y target args r ht st hx sx e = absurd (let wrong : Some u ≡ None = ht refl in cc)
closed_rows true (Some a) (Some k) (Some t) None x y false args r ht st hx sx e = absurd (let wrong : false ≡ true = st refl in cc)
closed_rows true (Some a) (Some k) (Some t) None None y true args r ht st hx sx e = found (λ r. IsAnswer (sure_for false true args r.text r) (Some (refusal 400 reason.MalformedTarget))) (refusal 400 reason.MalformedArgs) r e (inl refl)
closed_rows true (Some a) (Some k) (Some t) None (Some x) y true args r ht st hx sx e =
    subst (λ (r : Refusal). IsAnswer (sure_for false true args r.text r) (Some (refusal 400 reason.MalformedTarget))) ((unserved_row (is_unserved (adds_rule a) x) r e).1)
    (refusal 400 reason.MalformedTarget, refl, inl refl)
closed_rows true (Some a) (Some k) (Some t) (Some u) None None target args r ht st hx sx e =
    found (λ r. IsAnswer (sure_for false target args r.text r) (Some (refusal 400 reason.MalformedArgs))) (refusal 400 reason.MalformedArgs) r e (malformed_args target)
closed_rows true (Some a) (Some k) (Some t) (Some u) None (Some y) target args r ht st hx sx e = absurd (let wrong : Some y ≡ None = hx.0 refl in cc)
closed_rows true (Some a) (Some k) (Some t) (Some u) (Some x) None target false r ht st hx sx e = absurd (let wrong : false ≡ true = sx refl in cc)
closed_rows true (Some a) (Some k) (Some t) (Some u) (Some x) None target true r ht st hx sx e =
    subst (λ (r : Refusal). IsAnswer (sure_for false target true r.text r) (Some (refusal 400 reason.MalformedArgs))) ((unserved_row (is_unserved (adds_rule a) x) r e).1)
    (by target)
  where
    by : (b : Bool) → IsAnswer (if b || true then sure.Refused else sure.Answer (refusal 501 reason.UnsupportedArgs)) (Some (refusal 400 reason.MalformedArgs))
    by true = (refusal 400 reason.MalformedArgs, refl, inl refl)
    by false = (refusal 400 reason.MalformedArgs, refl, inl refl)
closed_rows true (Some a) (Some k) (Some t) (Some u) (Some x) (Some y) target args r ht st hx sx e =
    unserved_sure (is_unserved (adds_rule a) x) (is_unserved (adds_rule a) y) target args r (hx.1 x y refl refl (adds_rule a)) e

-- ---- the action is open

pub refused_row : (is : Bool) (a : Option Action) (k : Option TargetKind) (t : Option Target) (x : Option Args) → is_some (row_of is a k t x) ≡ true → IsAnswer sure.Refused (row_of is a k t x)
refused_row false a k t x e = (refusal 400 reason.MalformedCommand, refl, inl refl)
refused_row true None k t x e = (refusal 501 reason.UnsupportedAction, refl, inr refl)
refused_row true (Some a) None t x e = (refusal 501 reason.UnsupportedPair, refl, inr refl)
refused_row true (Some a) (Some k) None x e = (refusal 400 reason.MalformedTarget, refl, inl refl)
refused_row true (Some a) (Some k) (Some t) None e = (refusal 400 reason.MalformedArgs, refl, inl refl)
refused_row true (Some a) (Some k) (Some t) (Some x) e = by (is_unserved (adds_rule a) x) e
  where
    by : (b : Bool) → is_some (if b then Some (refusal 501 reason.UnsupportedArgs) else None) ≡ true → IsAnswer sure.Refused (if b then Some (refusal 501 reason.UnsupportedArgs) else None)
    by true e = (refusal 501 reason.UnsupportedArgs, refl, inr refl)
    by false e = absurd (cc)

unserved_open : (b c : Bool) (r : Refusal) → c ≡ b → (if b then Some (refusal 501 reason.UnsupportedArgs) else None) ≡ Some r → is_some (if c then Some (refusal 501 reason.UnsupportedArgs) else None) ≡ true
unserved_open b c r same e = ap (λ (c : Bool). is_some (if c then Some (refusal 501 reason.UnsupportedArgs) else None)) (same ∙ (unserved_row b r e).0)

-- with the action that fits, and with another that takes the target too
open_some : (a c : Action) (k : TargetKind) (t u : Option Target) (x y : Option Args) (r : Refusal) → adds_rule c ≡ adds_rule a → (t ≡ None → u ≡ None) → FollowsArgs x y
    → row_of true (Some a) (Some k) t x ≡ Some r → is_some (row_of true (Some c) (Some k) u y) ≡ true
open_some a c k None None x y r ha ht hx e = refl
open_some a c k None (Some u) x y r ha ht hx e = absurd (let wrong : Some u ≡ None = ht refl in cc)
open_some a c k (Some t) None x y r ha ht hx e = refl
open_some a c k (Some t) (Some u) None None r ha ht hx e = refl
open_some a c k (Some t) (Some u) None (Some y) r ha ht hx e = absurd (let wrong : Some y ≡ None = hx.0 refl in cc)
open_some a c k (Some t) (Some u) (Some x) None r ha ht hx e = refl
open_some a c k (Some t) (Some u) (Some x) (Some y) r ha ht hx e =
    unserved_open (is_unserved (adds_rule a) x) (is_unserved (adds_rule c) y) r (hx.1 x y refl refl (adds_rule c) ∙ ap (λ b. is_unserved b x) ha) e

pub open_rows : (a c : Action) (k : TargetKind) (t u : Option Target) (x y : Option Args) (target args : Bool) (r : Refusal) → adds_rule c ≡ adds_rule a → (t ≡ None → u ≡ None) → FollowsArgs x y
    → row_of true (Some a) (Some k) t x ≡ Some r → IsAnswer sure.Refused (row_of true (Some c) (Some k) u y)
open_rows a c k t u x y target args r ha ht hx e = refused_row true (Some c) (Some k) u y (open_some a c k t u x y r ha ht hx e)
