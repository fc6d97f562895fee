-- The arguments of a command that is filled are read, and so are those whose open texts are set to what fits.
use Rattle.std.proofs.Common.{◌≡◌, ◌∙◌, refl, sym, ap, subst, arith, ℕ, ℤ, pos, negsuc, ◌≤◌, Bool, true, false, ◌&&◌, List, codes, Option, Some, None}
use Rattle.std.specs.Prelude.{nat_le, option_map, option_and_then, if◌then◌else◌}
use Rattle.std.specs.Option.{option_map_or}
use Rattle.serde_json.specs.Data.{Data, null, boolean, number, string, array, object, Members}
use Rattle.serde_json.specs.Find.{as_bool, as_integer, as_number, get_member}
use Rattle.cacao_vars.specs.References.{ReferencesGoOn}
use Rattle.flow_core_rules.specs.State.{Lists}
use Rattle.flow_core_rules.specs.Filled.{filled, filled_members}
use Rattle.oc2_msg_targets.specs.Parts.{are_among, between, names_of, natural, optional, whole_data}
use Rattle.oc2_msg.specs.declared.arguments.FilterArgs.{FilterArgs}
use Rattle.oc2_msg.specs.declared.directions.Direction.{Direction}
use Rattle.oc2_msg.specs.declared.drops.Drop3.{Drop3}
use Rattle.oc2_msg.specs.Args.{direction_in, drop_in, filter_args_in, filter_parts, no_filter_args, rule_number, time}
use Rattle.cacao_view_preflight.specs.Settled.{in_object, is_open, opens_slpf, set_if_open, settled, slpf_members}
use Rattle.cacao_view_preflight.proofs.NameLemmas.{among_changed, get_changed}
use Rattle.cacao_view_preflight.proofs.FillLemmas.{IsScalar, as_bool-filled, by_kind, get-filled, names-filled, none_optional, same_optional}
use Rattle.cacao_view_preflight.proofs.TargetLemmas.{Follows, Part, alike_optional, both_false, follows, skip}
use Rattle.cacao_view_preflight.proofs.ArgLemmas.{Alike, FollowsFilter, filter_by, filter_follows}

abbrev latest : ℕ
latest = 9_007_199_254_740_991

-- ---- times are within their range

within : (m n y : ℕ) (a b : Bool) → nat_le n m ≡ b → (if a && b then Some n else None) ≡ Some y → y ≤ m
within m n y true true e h =
    let same : n ≡ y = (let s : Some n ≡ Some y = h in cc) in
    subst (λ (n : ℕ). n ≤ m) same (grind arith)
within m n y true false e h = absurd (let wrong : None ≡ Some y = h in cc)
within m n y false b e h = absurd (let wrong : None ≡ Some y = h in cc)

most_of : (o : Option ℤ) (y : ℕ) → option_and_then (λ z. option_and_then (between 0 9_007_199_254_740_991) (natural z)) o ≡ Some y → y ≤ 9_007_199_254_740_991
most_of None y e = absurd (cc)
most_of (Some (pos n)) y e = within 9_007_199_254_740_991 n y (nat_le 0 n) (nat_le n 9_007_199_254_740_991) refl e
most_of (Some (negsuc n)) y e = absurd (cc)

pub time_most : (d : Data) (y : ℕ) → time d ≡ Some y → y ≤ 9_007_199_254_740_991
time_most d y e = most_of (option_and_then as_integer (as_number d)) y e

pub time_scalar : IsScalar time
time_scalar = record { arrays = λ ds. refl; objects = λ ms. refl }

direction_scalar : IsScalar direction_in
direction_scalar = record { arrays = λ ds. refl; objects = λ ms. refl }

number_scalar : IsScalar rule_number
number_scalar = record { arrays = λ ds. refl; objects = λ ms. refl }

denied : (b : Bool) → drop_in b null ≡ None
denied true = refl
denied false = refl

drop_scalar : (b : Bool) → IsScalar (drop_in b)
drop_scalar true = record { arrays = λ ds. refl; objects = λ ms. refl }
drop_scalar false = record { arrays = λ ds. refl; objects = λ ms. refl }

abbrev fit_drop : Data → Data
fit_drop = set_if_open (string (codes "none"))

abbrev fit_direction : Data → Data
fit_direction = set_if_open (string (codes "both"))

abbrev fit_number : Data → Data
fit_number = set_if_open (whole_data 1)

abbrev pub fit_first : Data → Data
fit_first = set_if_open (whole_data 0)

abbrev pub fit_last : Data → Data
fit_last = set_if_open (whole_data 9_007_199_254_740_991)

some_of : {A : Type 0} (o x : Option A) → option_map Some o ≡ Some x → o ≡ x
some_of None x e = absurd (cc)
some_of (Some a) x e = let same : Some (Some a) ≡ Some x = e in cc

-- ---- the arguments of the profile

module _ (ws : Members) where
  abbrev s1 : Members
  s1 = settled (codes "drop_process") (string (codes "none")) ws

  abbrev s2 : Members
  s2 = settled (codes "direction") (string (codes "both")) s1

  slpf_names : are_among filter_parts (names_of (slpf_members ws)) ≡ are_among filter_parts (names_of ws)
  slpf_names =
      among_changed filter_parts (codes "insert_rule") fit_number s2 refl ∙ among_changed filter_parts (codes "direction") fit_direction s1 refl
      ∙ among_changed filter_parts (codes "drop_process") fit_drop ws refl

  slpf_drop : get_member (codes "drop_process") (slpf_members ws) ≡ option_map fit_drop (get_member (codes "drop_process") ws)
  slpf_drop =
      skip (codes "drop_process") (codes "insert_rule") fit_number s2 refl ∙ skip (codes "drop_process") (codes "direction") fit_direction s1 refl ∙ get_changed (codes "drop_process") fit_drop ws

  slpf_persistent : get_member (codes "persistent") (slpf_members ws) ≡ get_member (codes "persistent") ws
  slpf_persistent =
      skip (codes "persistent") (codes "insert_rule") fit_number s2 refl ∙ skip (codes "persistent") (codes "direction") fit_direction s1 refl ∙ skip (codes "persistent") (codes "drop_process") fit_drop ws refl

  slpf_direction : get_member (codes "direction") (slpf_members ws) ≡ option_map fit_direction (get_member (codes "direction") ws)
  slpf_direction =
      skip (codes "direction") (codes "insert_rule") fit_number s2 refl ∙ get_changed (codes "direction") fit_direction s1 ∙ ap (option_map fit_direction) (skip (codes "direction") (codes "drop_process") fit_drop ws refl)

  slpf_insert : get_member (codes "insert_rule") (slpf_members ws) ≡ option_map fit_number (get_member (codes "insert_rule") ws)
  slpf_insert =
      get_changed (codes "insert_rule") fit_number s2
      ∙ ap (option_map fit_number) (skip (codes "insert_rule") (codes "direction") fit_direction s1 refl ∙ skip (codes "insert_rule") (codes "drop_process") fit_drop ws refl)

same_filter : (o o' : Bool) (a a' : Part Drop3) (b b' : Part Bool) (c c' : Part Direction) (d d' : Part ℕ) → o ≡ o' → a ≡ a' → b ≡ b' → c ≡ c' → d ≡ d' → filter_by o a b c d ≡ filter_by o' a' b' c' d'
same_filter o o' a a' b b' c c' d d' ho ha hb hc hd = rw (ho, ha, hb, hc, hd) refl

abbrev filter_changed : Bool → (Data → Data) → (Data → Data) → (Data → Data) → (Data → Data) → Members → Option FilterArgs
filter_changed denies drops keeps directs inserts ws =
    filter_by (are_among filter_parts (names_of ws)) (optional (drop_in denies) (option_map drops (get_member (codes "drop_process") ws)))
    (optional as_bool (get_member (codes "persistent") ws)) (optional direction_in (option_map directs (get_member (codes "direction") ws)))
    (optional rule_number (option_map inserts (get_member (codes "insert_rule") ws)))

filter_settled : (denies : Bool) (ws : Members) → filter_args_in denies (Some (object (slpf_members ws))) ≡ filter_changed denies fit_drop (λ d. d) fit_direction fit_number ws
filter_settled denies ws =
    same_filter (are_among filter_parts (names_of (slpf_members ws))) (are_among filter_parts (names_of ws))
    (optional (drop_in denies) (get_member (codes "drop_process") (slpf_members ws))) (optional (drop_in denies) (option_map fit_drop (get_member (codes "drop_process") ws)))
    (optional as_bool (get_member (codes "persistent") (slpf_members ws))) (optional as_bool (get_member (codes "persistent") ws))
    (optional direction_in (get_member (codes "direction") (slpf_members ws))) (optional direction_in (option_map fit_direction (get_member (codes "direction") ws)))
    (optional rule_number (get_member (codes "insert_rule") (slpf_members ws))) (optional rule_number (option_map fit_number (get_member (codes "insert_rule") ws)))
    (slpf_names ws) (ap (optional (drop_in denies)) (slpf_drop ws)) (ap (optional as_bool) (slpf_persistent ws)) (ap (optional direction_in) (slpf_direction ws))
    (ap (optional rule_number) (slpf_insert ws))

module _ (go : ReferencesGoOn) (s : Lists) (scope : ℕ) where
  abbrev fill : Data → Data
  fill = filled s scope

  bool_filled : (o : Option Data) → optional as_bool (option_map fill o) ≡ optional as_bool o
  bool_filled None = refl
  bool_filled (Some d) = ap (option_map Some) (as_bool-filled s scope d)

  filter_filled : (denies : Bool) (ws : Members) → filter_args_in denies (Some (object (filled_members s scope ws))) ≡ filter_changed denies fill fill fill fill ws
  filter_filled denies ws =
      let ns : Members = filled_members s scope ws in
      let found : (k : List ℕ) → get_member k ns ≡ option_map fill (get_member k ws) = λ k. get-filled s scope k (object ws) in
      same_filter (are_among filter_parts (names_of ns)) (are_among filter_parts (names_of ws))
      (optional (drop_in denies) (get_member (codes "drop_process") ns)) (optional (drop_in denies) (option_map fill (get_member (codes "drop_process") ws)))
      (optional as_bool (get_member (codes "persistent") ns)) (optional as_bool (get_member (codes "persistent") ws))
      (optional direction_in (get_member (codes "direction") ns)) (optional direction_in (option_map fill (get_member (codes "direction") ws)))
      (optional rule_number (get_member (codes "insert_rule") ns)) (optional rule_number (option_map fill (get_member (codes "insert_rule") ws)))
      (ap (are_among filter_parts) (names-filled s scope ws)) (ap (optional (drop_in denies)) (found (codes "drop_process")))
      (ap (optional as_bool) (found (codes "persistent")) ∙ bool_filled (get_member (codes "persistent") ws)) (ap (optional direction_in) (found (codes "direction")))
      (ap (optional rule_number) (found (codes "insert_rule")))

  drops_follow : (b q : Bool) → (q ≡ true → b ≡ true) → (o : Option Data) → Follows (optional (drop_in b) (option_map fit_drop o)) (optional (drop_in q) (option_map fill o))
  drops_follow b q h o = record { none = by b q h o; alike = alike_optional (drop_in b) (drop_in q) fit_drop fill o }
    where
      by : (b q : Bool) → (q ≡ true → b ≡ true) → (o : Option Data) → optional (drop_in b) (option_map fit_drop o) ≡ None → optional (drop_in q) (option_map fill o) ≡ None
      by true true h o e = none_optional go s scope (drop_in true) (drop_scalar true) (string (codes "none")) _ refl o e
      by false true h o e = absurd (let wrong : false ≡ true = h refl in cc)
      by b false h None e = absurd (let wrong : Some None ≡ None = e in cc)
      by b false h (Some d) e = refl

  pub filters_follow : (b q : Bool) → (q ≡ true → b ≡ true) → (o : Option Data)
      → FollowsFilter (filter_args_in b (option_map (in_object slpf_members) o)) (filter_args_in q (option_map fill o))
  filters_follow b q h None = record {
    none = λ e. absurd (let wrong : Some no_filter_args ≡ None = e in cc);
    alike = λ x y e f.
        let sx : no_filter_args ≡ x = let e : Some no_filter_args ≡ Some x = e in cc in
        let sy : no_filter_args ≡ y = let f : Some no_filter_args ≡ Some y = f in cc in
        subst (λ (x : FilterArgs). Alike x y) sx (subst (λ (y : FilterArgs). Alike no_filter_args y) sy (record { dropped = refl; kept = refl; directed = refl; inserted = refl }));
  }
  filters_follow b q h (Some null) = record { none = λ e. refl; alike = λ x y e f. absurd (let wrong : None ≡ Some x = e in cc) }
  filters_follow b q h (Some (boolean c)) = record { none = λ e. refl; alike = λ x y e f. absurd (let wrong : None ≡ Some x = e in cc) }
  filters_follow b q h (Some (number n)) = record { none = λ e. refl; alike = λ x y e f. absurd (let wrong : None ≡ Some x = e in cc) }
  filters_follow b q h (Some (string t)) = record {
    none = λ e. by_kind s scope t (λ d. filter_args_in q (Some d) ≡ None) (λ n. refl) (λ u. refl);
    alike = λ x y e f. absurd (let wrong : None ≡ Some x = e in cc);
  }
  filters_follow b q h (Some (array ds)) = record { none = λ e. refl; alike = λ x y e f. absurd (let wrong : None ≡ Some x = e in cc) }
  filters_follow b q h (Some (object ws)) =
      subst (λ (p : Option FilterArgs). FollowsFilter p (filter_args_in q (Some (object (filled_members s scope ws))))) (sym (filter_settled b ws))
      (subst (λ (r : Option FilterArgs). FollowsFilter (filter_changed b fit_drop (λ d. d) fit_direction fit_number ws) r) (sym (filter_filled q ws))
      (filter_follows (are_among filter_parts (names_of ws)) (optional (drop_in b) (option_map fit_drop (get_member (codes "drop_process") ws))) (optional (drop_in q) (option_map fill (get_member (codes "drop_process") ws)))
      (optional as_bool (get_member (codes "persistent") ws))
      (optional direction_in (option_map fit_direction (get_member (codes "direction") ws))) (optional direction_in (option_map fill (get_member (codes "direction") ws)))
      (optional rule_number (option_map fit_number (get_member (codes "insert_rule") ws))) (optional rule_number (option_map fill (get_member (codes "insert_rule") ws)))
      (drops_follow b q h (get_member (codes "drop_process") ws))
      (follows go s scope direction_in direction_scalar (string (codes "both")) _ refl (get_member (codes "direction") ws))
      (follows go s scope rule_number number_scalar (whole_data 1) 1 refl (get_member (codes "insert_rule") ws))))

  same_drops : (b : Bool) (o : Option Data) → option_map_or is_open o false ≡ false → optional (drop_in b) (option_map fill o) ≡ optional (drop_in b) (option_map fit_drop o)
  same_drops true o e = same_optional go s scope (drop_in true) (drop_scalar true) (string (codes "none")) _ refl o e
  same_drops false None e = refl
  same_drops false (Some d) e = refl

  pub same_filters : (b : Bool) (o : Option Data) → option_map_or opens_slpf o false ≡ false → filter_args_in b (option_map fill o) ≡ filter_args_in b (option_map (in_object slpf_members) o)
  same_filters b None e = refl
  same_filters b (Some null) e = refl
  same_filters b (Some (boolean c)) e = refl
  same_filters b (Some (number n)) e = refl
  same_filters b (Some (string t)) e = by_kind s scope t (λ d. filter_args_in b (Some d) ≡ None) (λ n. refl) (λ u. refl)
  same_filters b (Some (array ds)) e = refl
  same_filters b (Some (object ws)) e =
      let p1 = both_false _ _ e in
      let p2 = both_false _ _ p1.1 in
      let p3 = both_false _ _ p2.1 in
      filter_filled b ws
      ∙ same_filter (are_among filter_parts (names_of ws)) (are_among filter_parts (names_of ws))
      (optional (drop_in b) (option_map fill (get_member (codes "drop_process") ws))) (optional (drop_in b) (option_map fit_drop (get_member (codes "drop_process") ws)))
      (optional as_bool (get_member (codes "persistent") ws)) (optional as_bool (get_member (codes "persistent") ws))
      (optional direction_in (option_map fill (get_member (codes "direction") ws))) (optional direction_in (option_map fit_direction (get_member (codes "direction") ws)))
      (optional rule_number (option_map fill (get_member (codes "insert_rule") ws))) (optional rule_number (option_map fit_number (get_member (codes "insert_rule") ws)))
      refl (same_drops b (get_member (codes "drop_process") ws) p1.0) refl
      (same_optional go s scope direction_in direction_scalar (string (codes "both")) _ refl (get_member (codes "direction") ws) p2.0)
      (same_optional go s scope rule_number number_scalar (whole_data 1) 1 refl (get_member (codes "insert_rule") ws) p3.0)
      ∙ sym (filter_settled b ws)
