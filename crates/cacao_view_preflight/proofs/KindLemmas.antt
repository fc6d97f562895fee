-- The target of a command that is filled, by its kind, beside that of one whose open texts are set to what fits.
use Rattle.std.proofs.Common.{◌≡◌, ◌∙◌, refl, sym, ap, subst, ℕ, Bool, true, false, not, ◌&&◌, ◌||◌, List, [], ◌∷◌, codes, Option, Some, None}
use Rattle.std.specs.Prelude.{option_map, option_and_then, is_some, if◌then◌else◌}
use Rattle.std.specs.Option.{option_map_or}
use Rattle.serde_json.specs.Data.{Data, null, boolean, number, string, array, object, Items, no_items, item}
use Rattle.serde_json.specs.Find.{as_str, get}
use Rattle.cacao_vars.specs.References.{ReferencesGoOn}
use Rattle.flow_core_rules.specs.State.{Lists}
use Rattle.flow_core_rules.specs.Filled.{filled, filled_items}
use Rattle.base_decimals.specs.Numbers.{number as decimal_number}
use Rattle.std.specs.Fmt.{digits}
use Rattle.oc2_nets.specs.Ipv4.{address4}
use Rattle.oc2_nets.specs.Ipv6.{address6, segments}
use Rattle.oc2_nets.specs.Nets.{net4_of, net6_of}
use Rattle.oc2_nets.specs.declared.ipv4_nets.Net4.{Net4}
use Rattle.oc2_nets.specs.declared.ipv6_nets.Net6.{Net6}
use Rattle.oc2_nets.specs.declared.flows.Flow.TheVariants as flow
use Rattle.oc2_msg_targets.specs.declared.features.Feature.{Feature}
use Rattle.oc2_msg_targets.specs.declared.kinds.TargetKind.{TargetKind}
use Rattle.oc2_msg_targets.specs.declared.kinds.TargetKind.TheVariants as kind
use Rattle.oc2_msg_targets.specs.declared.targets.Target.TheVariants as target
use Rattle.oc2_msg_targets.specs.Parts.{whole_data}
use Rattle.oc2_msg_targets.specs.Features.{distinct, feature_in, features_in, has, is_distinct, is_same}
use Rattle.oc2_msg_targets.specs.Targets.{net4_in, net6_in, target_in}
use Rattle.cacao_view_preflight.specs.Settled.{closed_items, has_open, is_open, opens_value, value_settled}
use Rattle.cacao_view_preflight.proofs.FillLemmas.{by_kind, closed, get-filled, none_filled, same_filled}
use Rattle.cacao_view_preflight.proofs.TargetLemmas.{both_false, feature_scalar, kind_scalar4, kind_scalar6, net4_scalar, net6_scalar, none_connection, number_scalar, same_connection, text_scalar}

-- ---- the nets that fit

known : {A : Type 0} (o : Option A) → is_some o ≡ true → (x : A) × (o ≡ Some x)
known None e = absurd (cc)
known (Some x) e = (x, refl)

fits4 : is_some (net4_in (string (codes "0.0.0.0"))) ≡ true
unfolding net4_of address4 decimal_number digits
fits4 = refl

fits6 : is_some (net6_in (string (codes "::"))) ≡ true
unfolding net6_of address6 segments
fits6 = refl

fitting4 : (net : Net4) × (net4_in (string (codes "0.0.0.0")) ≡ Some net)
fitting4 = known (net4_in (string (codes "0.0.0.0"))) fits4

fitting6 : (net : Net6) × (net6_in (string (codes "::")) ≡ Some net)
fitting6 = known (net6_in (string (codes "::"))) fits6

-- ---- features

-- the second has none that the first lacks, and none twice where the first has none twice
record Keeps (fs gs : List Feature) : Type 0 where
  lacks : (f : Feature) → has fs f ≡ false → has gs f ≡ false
  once : is_distinct fs ≡ true → is_distinct gs ≡ true

abbrev Kept : Option (List Feature) → List Feature → Type 0
Kept None fs = ⊥
Kept (Some gs) fs = Keeps fs gs

both_true : (a b : Bool) → (a && b) ≡ true → (a ≡ true) × (b ≡ true)
both_true true b e = (refl, e)
both_true false b e = absurd (cc)

not_true : (b : Bool) → not b ≡ true → b ≡ false
not_true true e = absurd (cc)
not_true false e = refl

fewer : (first : Feature) (r gs : List Feature) → Keeps r gs → Keeps (first ∷ r) gs
fewer first r gs k = record {
  lacks = λ f e. k.lacks f ((both_false (is_same f first) (has r f) e).1);
  once = λ e. k.once ((both_true (not (has r first)) (is_distinct r) e).1);
}

as_many : (first : Feature) (r gs : List Feature) → Keeps r gs → Keeps (first ∷ r) (first ∷ gs)
as_many first r gs k = record {
  lacks = λ f e. let p = both_false (is_same f first) (has r f) e in ap (λ b. b || has gs f) p.0 ∙ k.lacks f p.1;
  once = λ e.
      let p = both_true (not (has r first)) (is_distinct r) e in
      ap (λ b. not b && is_distinct gs) (k.lacks first (not_true (has r first) p.0)) ∙ k.once p.1;
}

fewer_kept : (first : Feature) (r : List Feature) (o : Option (List Feature)) → Kept o r → Kept o (first ∷ r)
fewer_kept first r None k = k
fewer_kept first r (Some gs) k = fewer first r gs k

many_kept : (first : Feature) (r : List Feature) (o : Option (List Feature)) → Kept o r → Kept (option_and_then (λ rest. Some (first ∷ rest)) o) (first ∷ r)
many_kept first r None k = k
many_kept first r (Some gs) k = as_many first r gs k

-- what is read of a list is read of its parts
split : (a : Option Feature) (b : Option (List Feature)) (fs : List Feature) (P : Type 0) → option_and_then (λ f. option_and_then (λ r. Some (f ∷ r)) b) a ≡ Some fs
    → ((f : Feature) (r : List Feature) → a ≡ Some f → b ≡ Some r → f ∷ r ≡ fs → P) → P
split None b fs P e use_it = absurd (cc)
split (Some f) None fs P e use_it = absurd (cc)
split (Some f) (Some r) fs P e use_it = use_it f r refl refl (let same : Some (f ∷ r) ≡ Some fs = e in cc)

module _ (go : ReferencesGoOn) (s : Lists) (scope : ℕ) where
  closed_kept : (ds : Items) (fs : List Feature) → features_in (filled_items s scope ds) ≡ Some fs → Kept (features_in (closed_items ds)) fs
  closed_kept no_items fs e =
      let same : [] ≡ fs = (let s : Some [] ≡ Some fs = e in cc) in
      subst (λ (fs : List Feature). Keeps fs []) same (record { lacks = λ f e. e; once = λ e. e })
  closed_kept (item d ds) fs e =
      split (feature_in (filled s scope d)) (features_in (filled_items s scope ds)) fs (Kept (features_in (closed_items (item d ds))) fs) e
      (λ f r first rest is. subst (Kept (features_in (closed_items (item d ds)))) is (by f r first (closed_kept ds r rest) (is_open d) refl))
    where
      by : (f : Feature) (r : List Feature) → feature_in (filled s scope d) ≡ Some f → Kept (features_in (closed_items ds)) r → (b : Bool) → is_open d ≡ b
          → Kept (features_in (if b then closed_items ds else item d (closed_items ds))) (f ∷ r)
      by f r first k true o = fewer_kept f r (features_in (closed_items ds)) k
      by f r first k false o =
          subst (λ (o : Option Feature). Kept (option_and_then (λ x. option_and_then (λ rest. Some (x ∷ rest)) (features_in (closed_items ds))) o) (f ∷ r))
          (sym (sym (closed go s scope feature_in feature_scalar d o) ∙ first))
          (many_kept f r (features_in (closed_items ds)) k)

  none_distinct : (o : Option (List Feature)) (fs : List Feature) → Kept o fs → option_and_then distinct o ≡ None → distinct fs ≡ None
  none_distinct None fs k e = absurd k
  none_distinct (Some gs) fs k e = by (is_distinct fs) refl (is_distinct gs) refl e
    where
      by : (b : Bool) → is_distinct fs ≡ b → (c : Bool) → is_distinct gs ≡ c → (if c then Some gs else None) ≡ None → (if b then Some fs else None) ≡ None
      by false f c g e = refl
      by true f true g e = absurd (cc)
      by true f false g e = absurd (let wrong : false ≡ true = sym g ∙ k.once f in cc)

  none_features : (ds : Items) → option_and_then distinct (features_in (closed_items ds)) ≡ None → option_and_then distinct (features_in (filled_items s scope ds)) ≡ None
  none_features ds e = by (features_in (filled_items s scope ds)) refl
    where
      by : (o : Option (List Feature)) → features_in (filled_items s scope ds) ≡ o → option_and_then distinct o ≡ None
      by None f = refl
      by (Some fs) f = none_distinct (features_in (closed_items ds)) fs (closed_kept ds fs f) e

  same_features : (ds : Items) → has_open ds ≡ false → features_in (filled_items s scope ds) ≡ features_in ds
  same_features no_items e = refl
  same_features (item d ds) e =
      let p = both_false (is_open d) (has_open ds) e in
      ap (λ (o : Option Feature). option_and_then (λ x. option_and_then (λ rest. Some (x ∷ rest)) (features_in (filled_items s scope ds))) o) (closed go s scope feature_in feature_scalar d p.0)
      ∙ ap (λ (o : Option (List Feature)). option_and_then (λ x. option_and_then (λ rest. Some (x ∷ rest)) o) (feature_in d)) (same_features ds p.1)

  all_closed : (ds : Items) → has_open ds ≡ false → closed_items ds ≡ ds
  all_closed no_items e = refl
  all_closed (item d ds) e =
      let p = both_false (is_open d) (has_open ds) e in
      ap (λ b. if b then closed_items ds else item d (closed_items ds)) p.0 ∙ ap (item d) (all_closed ds p.1)

  -- ---- a file's name

  no_text : (x : Data) → as_str x ≡ None → as_str (filled s scope x) ≡ None
  no_text null e = refl
  no_text (boolean b) e = refl
  no_text (number n) e = refl
  no_text (string t) e = absurd (cc)
  no_text (array ds) e = refl
  no_text (object ms) e = refl

  no_name : (o : Option Data) → option_and_then as_str o ≡ None → option_and_then as_str (option_map (filled s scope) o) ≡ None
  no_name None e = refl
  no_name (Some x) e = no_text x e

  same_name : (o : Option Data) → option_map_or is_open o false ≡ false → option_and_then as_str (option_map (filled s scope) o) ≡ option_and_then as_str o
  same_name None e = refl
  same_name (Some x) e = closed go s scope as_str text_scalar x e

  none_by : {A B : Type 0} (f : A → B) (p q : Option A) → (p ≡ None → q ≡ None) → option_map f p ≡ None → option_map f q ≡ None
  none_by f None q h e = ap (option_map f) (h refl)
  none_by f (Some a) q h e = absurd (cc)

  -- ---- by kind

  pub none_value : (k : TargetKind) (d : Data) → target_in k (value_settled k d) ≡ None → target_in k (filled s scope d) ≡ None
  none_value kind.Ipv4Net d e = none_filled go s scope (target_in kind.Ipv4Net) kind_scalar4 (string (codes "0.0.0.0")) (target.Flow (flow.Net4 fitting4.0)) (ap (option_map (λ net. target.Flow (flow.Net4 net))) fitting4.1) d e
  none_value kind.Ipv6Net d e = none_filled go s scope (target_in kind.Ipv6Net) kind_scalar6 (string (codes "::")) (target.Flow (flow.Net6 fitting6.0)) (ap (option_map (λ net. target.Flow (flow.Net6 net))) fitting6.1) d e
  none_value kind.Ipv4Connection null e = refl
  none_value kind.Ipv4Connection (boolean b) e = refl
  none_value kind.Ipv4Connection (number n) e = refl
  none_value kind.Ipv4Connection (string t) e = by_kind s scope t (λ x. target_in kind.Ipv4Connection x ≡ None) (λ n. refl) (λ u. refl)
  none_value kind.Ipv4Connection (array ds) e = refl
  none_value kind.Ipv4Connection (object ws) e = none_connection go s scope flow.Conn4 (λ a b c d e. refl) net4_in net4_scalar (codes "0.0.0.0") fitting4.0 fitting4.1 ws e
  none_value kind.Ipv6Connection null e = refl
  none_value kind.Ipv6Connection (boolean b) e = refl
  none_value kind.Ipv6Connection (number n) e = refl
  none_value kind.Ipv6Connection (string t) e = by_kind s scope t (λ x. target_in kind.Ipv6Connection x ≡ None) (λ n. refl) (λ u. refl)
  none_value kind.Ipv6Connection (array ds) e = refl
  none_value kind.Ipv6Connection (object ws) e = none_connection go s scope flow.Conn6 (λ a b c d e. refl) net6_in net6_scalar (codes "::") fitting6.0 fitting6.1 ws e
  none_value kind.RuleNumber d e = none_filled go s scope (target_in kind.RuleNumber) number_scalar (whole_data 1) (target.RuleNumber 1) refl d e
  none_value kind.File d e =
      ap (λ (o : Option Data). option_map target.File (option_and_then as_str o)) (get-filled s scope (codes "name") d)
      ∙ none_by target.File (option_and_then as_str (get (codes "name") d)) (option_and_then as_str (option_map (filled s scope) (get (codes "name") d))) (no_name (get (codes "name") d)) e
  none_value kind.Features null e = refl
  none_value kind.Features (boolean b) e = refl
  none_value kind.Features (number n) e = refl
  none_value kind.Features (string t) e = by_kind s scope t (λ x. target_in kind.Features x ≡ None) (λ n. refl) (λ u. refl)
  none_value kind.Features (array ds) e =
      none_by target.Features (option_and_then distinct (features_in (closed_items ds))) (option_and_then distinct (features_in (filled_items s scope ds))) (none_features ds) e
  none_value kind.Features (object ms) e = refl

  pub same_value : (k : TargetKind) (d : Data) → opens_value k d ≡ false → target_in k (filled s scope d) ≡ target_in k (value_settled k d)
  same_value kind.Ipv4Net d o = same_filled go s scope (target_in kind.Ipv4Net) kind_scalar4 (string (codes "0.0.0.0")) (target.Flow (flow.Net4 fitting4.0)) (ap (option_map (λ net. target.Flow (flow.Net4 net))) fitting4.1) d o
  same_value kind.Ipv6Net d o = same_filled go s scope (target_in kind.Ipv6Net) kind_scalar6 (string (codes "::")) (target.Flow (flow.Net6 fitting6.0)) (ap (option_map (λ net. target.Flow (flow.Net6 net))) fitting6.1) d o
  same_value kind.Ipv4Connection null o = refl
  same_value kind.Ipv4Connection (boolean b) o = refl
  same_value kind.Ipv4Connection (number n) o = refl
  same_value kind.Ipv4Connection (string t) o = by_kind s scope t (λ x. target_in kind.Ipv4Connection x ≡ None) (λ n. refl) (λ u. refl)
  same_value kind.Ipv4Connection (array ds) o = refl
  same_value kind.Ipv4Connection (object ws) o = same_connection go s scope flow.Conn4 (λ a b c d e. refl) net4_in net4_scalar (codes "0.0.0.0") fitting4.0 fitting4.1 ws o
  same_value kind.Ipv6Connection null o = refl
  same_value kind.Ipv6Connection (boolean b) o = refl
  same_value kind.Ipv6Connection (number n) o = refl
  same_value kind.Ipv6Connection (string t) o = by_kind s scope t (λ x. target_in kind.Ipv6Connection x ≡ None) (λ n. refl) (λ u. refl)
  same_value kind.Ipv6Connection (array ds) o = refl
  same_value kind.Ipv6Connection (object ws) o = same_connection go s scope flow.Conn6 (λ a b c d e. refl) net6_in net6_scalar (codes "::") fitting6.0 fitting6.1 ws o
  same_value kind.RuleNumber d o = same_filled go s scope (target_in kind.RuleNumber) number_scalar (whole_data 1) (target.RuleNumber 1) refl d o
  same_value kind.File d o =
      ap (λ (n : Option Data). option_map target.File (option_and_then as_str n)) (get-filled s scope (codes "name") d)
      ∙ ap (option_map target.File) (same_name (get (codes "name") d) o)
  same_value kind.Features null o = refl
  same_value kind.Features (boolean b) o = refl
  same_value kind.Features (number n) o = refl
  same_value kind.Features (string t) o = by_kind s scope t (λ x. target_in kind.Features x ≡ None) (λ n. refl) (λ u. refl)
  same_value kind.Features (array ds) o =
      ap (λ (x : Option (List Feature)). option_map target.Features (option_and_then distinct x)) (same_features ds o)
      ∙ ap (λ (x : Items). option_map target.Features (option_and_then distinct (features_in x))) (sym (all_closed ds o))
  same_value kind.Features (object ms) o = refl
