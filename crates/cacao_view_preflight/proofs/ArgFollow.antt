-- The arguments of a command that is filled follow those whose open texts are set to what fits.
use Rattle.std.proofs.Common.{◌≡◌, ◌∙◌, refl, sym, ap, subst, arith, ℕ, ◌≤◌, Bool, true, false, List, codes, Option, Some, None}
use Rattle.std.specs.Prelude.{option_map, is_some}
use Rattle.std.specs.Option.{option_map_or}
use Rattle.std.specs.Str.{bytes_eq}
use Rattle.serde_json.specs.Data.{Data, null, boolean, number, string, array, object, Members, no_members}
use Rattle.serde_json.specs.Find.{get_member}
use Rattle.cacao_json.specs.Tree.{without}
use Rattle.cacao_vars.specs.References.{ReferencesGoOn}
use Rattle.flow_core_rules.specs.State.{Lists}
use Rattle.flow_core_rules.specs.Filled.{completed, filled, filled_members, set_member}
use Rattle.oc2_msg_targets.specs.Parts.{are_among, is_absent_or, is_object, names_of, optional, whole_data}
use Rattle.oc2_msg.specs.declared.arguments.Args.{Args}
use Rattle.oc2_msg.specs.declared.arguments.FilterArgs.{FilterArgs}
use Rattle.oc2_msg.specs.Args.{arg_parts, args_in, filter_args_in, is_unserved, no_args, request_in, time}
use Rattle.cacao_view_preflight.specs.Settled.{args_members, in_object, opens_values, set_if_open, settled, slpf_members}
use Rattle.cacao_view_preflight.proofs.NameLemmas.{among_changed, among_with, among_without, get_changed, get_with, get_with_other, get_without, get_without_other, other_name}
use Rattle.cacao_view_preflight.proofs.FillLemmas.{beside, get-filled, names-filled, none_optional, same_optional}
use Rattle.cacao_view_preflight.proofs.TargetLemmas.{Part, alike_optional, both_false, skip}
use Rattle.cacao_view_preflight.proofs.ArgLemmas.{AtMost, FollowsArgs, FollowsTime, args_by, args_follow}
use Rattle.cacao_view_preflight.proofs.ArgReading.{filters_follow, fit_first, fit_last, same_filters, time_most, time_scalar}

abbrev asks : List ℕ
asks = codes "response_requested"

abbrev complete : Data
complete = string (codes "complete")

abbrev slpf_settled : Data → Data
slpf_settled = in_object slpf_members

same_args : (o o' : Bool) (a a' b b' c c' : Part ℕ) (r r' : Part (List ℕ)) (f f' : Option FilterArgs) → o ≡ o' → a ≡ a' → b ≡ b' → c ≡ c' → r ≡ r' → f ≡ f' → args_by o a b c r f ≡ args_by o' a' b' c' r' f'
same_args o o' a a' b b' c c' r r' f f' ho ha hb hc hr hf = rw (ho, ha, hb, hc, hr, hf) refl

abbrev time_by : (Data → Data) → List ℕ → Members → Part ℕ
time_by f name vs = optional time (option_map f (get_member name vs))

abbrev args_changed : Bool → (Data → Data) → (Data → Data) → (Data → Data) → Part (List ℕ) → Members → Option Args
args_changed denies first last slpf request vs =
    args_by (are_among arg_parts (names_of vs)) (time_by first (codes "start_time") vs) (time_by last (codes "stop_time") vs) (time_by first (codes "duration") vs) request
    (filter_args_in denies (option_map slpf (get_member (codes "slpf") vs)))

apart : (k : List ℕ) (vs : Members) → bytes_eq k (codes "response_requested") ≡ false → get_member k (without (codes "response_requested") vs) ≡ get_member k vs
apart k vs e = get_without_other k asks vs (other_name k asks e)

args_settled : (denies : Bool) (vs : Members) → args_in denies (Some (object (args_members vs))) ≡ args_changed denies fit_first fit_last slpf_settled (Some None) vs
args_settled denies vs =
    let l0 : Members = without asks vs in
    let l1 : Members = settled (codes "start_time") (whole_data 0) l0 in
    let l2 : Members = settled (codes "duration") (whole_data 0) l1 in
    let l3 : Members = settled (codes "stop_time") (whole_data 9_007_199_254_740_991) l2 in
    let ns : Members = args_members vs in
    same_args (are_among arg_parts (names_of ns)) (are_among arg_parts (names_of vs))
    (optional time (get_member (codes "start_time") ns)) (time_by fit_first (codes "start_time") vs)
    (optional time (get_member (codes "stop_time") ns)) (time_by fit_last (codes "stop_time") vs)
    (optional time (get_member (codes "duration") ns)) (time_by fit_first (codes "duration") vs)
    (optional request_in (get_member asks ns)) (Some None)
    (filter_args_in denies (get_member (codes "slpf") ns)) (filter_args_in denies (option_map slpf_settled (get_member (codes "slpf") vs)))
    (among_changed arg_parts (codes "slpf") slpf_settled l3 refl ∙ among_changed arg_parts (codes "stop_time") fit_last l2 refl ∙ among_changed arg_parts (codes "duration") fit_first l1 refl
    ∙ among_changed arg_parts (codes "start_time") fit_first l0 refl ∙ among_without arg_parts asks vs refl)
    (ap (optional time)
    (skip (codes "start_time") (codes "slpf") slpf_settled l3 refl ∙ skip (codes "start_time") (codes "stop_time") fit_last l2 refl ∙ skip (codes "start_time") (codes "duration") fit_first l1 refl
    ∙ get_changed (codes "start_time") fit_first l0 ∙ ap (option_map fit_first) (apart (codes "start_time") vs refl)))
    (ap (optional time)
    (skip (codes "stop_time") (codes "slpf") slpf_settled l3 refl ∙ get_changed (codes "stop_time") fit_last l2
    ∙ ap (option_map fit_last) (skip (codes "stop_time") (codes "duration") fit_first l1 refl ∙ skip (codes "stop_time") (codes "start_time") fit_first l0 refl ∙ apart (codes "stop_time") vs refl)))
    (ap (optional time)
    (skip (codes "duration") (codes "slpf") slpf_settled l3 refl ∙ skip (codes "duration") (codes "stop_time") fit_last l2 refl ∙ get_changed (codes "duration") fit_first l1
    ∙ ap (option_map fit_first) (skip (codes "duration") (codes "start_time") fit_first l0 refl ∙ apart (codes "duration") vs refl)))
    (ap (optional request_in)
    (skip asks (codes "slpf") slpf_settled l3 refl ∙ skip asks (codes "stop_time") fit_last l2 refl ∙ skip asks (codes "duration") fit_first l1 refl ∙ skip asks (codes "start_time") fit_first l0 refl
    ∙ get_without asks vs))
    (ap (filter_args_in denies)
    (get_changed (codes "slpf") slpf_settled l3
    ∙ ap (option_map slpf_settled)
    (skip (codes "slpf") (codes "stop_time") fit_last l2 refl ∙ skip (codes "slpf") (codes "duration") fit_first l1 refl ∙ skip (codes "slpf") (codes "start_time") fit_first l0 refl
    ∙ apart (codes "slpf") vs refl)))

module _ (go : ReferencesGoOn) (s : Lists) (scope : ℕ) where
  abbrev fill : Data → Data
  fill = filled s scope

  args_filled : (denies : Bool) (vs : Members) → args_in denies (Some (completed (object (filled_members s scope vs)))) ≡ args_changed denies fill fill fill (Some (Some (codes "complete"))) vs
  args_filled denies vs =
      let ms : Members = filled_members s scope vs in
      let ns : Members = set_member asks complete ms in
      let found : (k : List ℕ) → bytes_eq k asks ≡ false → get_member k ns ≡ option_map fill (get_member k vs) =
      λ k e. get_with_other k asks (λ _. complete) complete ms (other_name k asks e) ∙ get-filled s scope k (object vs) in
      same_args (are_among arg_parts (names_of ns)) (are_among arg_parts (names_of vs))
      (optional time (get_member (codes "start_time") ns)) (time_by fill (codes "start_time") vs)
      (optional time (get_member (codes "stop_time") ns)) (time_by fill (codes "stop_time") vs)
      (optional time (get_member (codes "duration") ns)) (time_by fill (codes "duration") vs)
      (optional request_in (get_member asks ns)) (Some (Some (codes "complete")))
      (filter_args_in denies (get_member (codes "slpf") ns)) (filter_args_in denies (option_map fill (get_member (codes "slpf") vs)))
      (among_with arg_parts asks (λ _. complete) complete ms refl ∙ ap (are_among arg_parts) (names-filled s scope vs))
      (ap (optional time) (found (codes "start_time") refl))
      (ap (optional time) (found (codes "stop_time") refl))
      (ap (optional time) (found (codes "duration") refl))
      (ap (optional request_in) (get_with asks (λ _. complete) complete ms ∙ one (get_member asks ms)))
      (ap (filter_args_in denies) (found (codes "slpf") refl))
    where
      one : (o : Option Data) → Some (option_map_or (λ _. complete) o complete) ≡ Some complete
      one None = refl
      one (Some d) = refl

  -- ---- times

  time_follows : (R : Option ℕ → Option ℕ → Type 0) (Q : ℕ → ℕ → Type 0) → R None None → ((a b : ℕ) → Q a b → R (Some a) (Some b)) → (n : ℕ) → time (whole_data n) ≡ Some n
      → ((a : ℕ) → Q a a) → ((d : Data) (a : ℕ) → time d ≡ Some a → Q n a) → (o : Option Data)
      → FollowsTime R (optional time (option_map (set_if_open (whole_data n)) o)) (optional time (option_map fill o))
  time_follows R Q none some n fits itself most o = record {
    none = none_optional go s scope time time_scalar (whole_data n) n fits o;
    related = related o;
    alike = alike_optional time time (set_if_open (whole_data n)) fill o;
  }
    where
      by : (d : Data) (p q : Option ℕ) (x y : Option ℕ) → time (set_if_open (whole_data n) d) ≡ p → time (fill d) ≡ q → option_map Some p ≡ Some x → option_map Some q ≡ Some y → R x y
      by d None q x y ep eq ex ey = absurd (let wrong : None ≡ Some x = ex in cc)
      by d (Some a) None x y ep eq ex ey = absurd (let wrong : None ≡ Some y = ey in cc)
      by d (Some a) (Some b) x y ep eq ex ey =
          let sx : Some a ≡ x = let e : Some (Some a) ≡ Some x = ex in cc in
          let sy : Some b ≡ y = let e : Some (Some b) ≡ Some y = ey in cc in
          subst (λ (x : Option ℕ). R x y) sx (subst (λ (y : Option ℕ). R (Some a) y) sy
          (some a b (beside go s scope time time_scalar (whole_data n) n fits Q itself most d a b ep eq)))

      related : (o : Option Data) (x y : Option ℕ) → optional time (option_map (set_if_open (whole_data n)) o) ≡ Some x → optional time (option_map fill o) ≡ Some y → R x y
      related None x y ex ey =
          let sx : None ≡ x = let e : Some None ≡ Some x = ex in cc in
          let sy : None ≡ y = let e : Some None ≡ Some y = ey in cc in
          subst (λ (x : Option ℕ). R x y) sx (subst (λ (y : Option ℕ). R None y) sy none)
      related (Some d) x y ex ey = by d (time (set_if_open (whole_data n) d)) (time (fill d)) x y refl refl ex ey

  first_follows : (o : Option Data) → FollowsTime AtMost (optional time (option_map fit_first o)) (optional time (option_map fill o))
  first_follows o = time_follows AtMost (λ a b. a ≤ b) tt (λ a b h. h) 0 refl (λ a. omega arith) (λ d a e. omega arith) o

  last_follows : (o : Option Data) → FollowsTime (λ x y. AtMost y x) (optional time (option_map fit_last o)) (optional time (option_map fill o))
  last_follows o = time_follows (λ x y. AtMost y x) (λ a b. b ≤ a) tt (λ a b h. h) 9_007_199_254_740_991 refl (λ a. omega arith) (λ d a e. time_most d a e) o

  -- ---- all of them

  abbrev settled_args : Bool → Option Data → Option Args
  settled_args denies o = args_in denies (option_map (in_object args_members) o)

  abbrev filled_args : Bool → Option Data → Option Args
  filled_args denies o = args_in denies (Some (option_map_or completed (option_map fill o) (completed (object no_members))))

  pub follow_args : (b q : Bool) → (q ≡ true → b ≡ true) → (o : Option Data) → is_absent_or is_object o ≡ true → FollowsArgs (settled_args b o) (filled_args q o)
  follow_args b q h None i = (
    (λ e. absurd (let wrong : Some no_args ≡ None = e in cc)),
    (λ x y e f adds.
        let sx : no_args ≡ x = let e : Some no_args ≡ Some x = e in cc in
        let sy : no_args ≡ y = let f : Some no_args ≡ Some y = f in cc in
        ap (is_unserved adds) (sym sy ∙ sx)),
  )
  follow_args b q h (Some null) i = absurd (cc)
  follow_args b q h (Some (boolean c)) i = absurd (cc)
  follow_args b q h (Some (number n)) i = absurd (cc)
  follow_args b q h (Some (string t)) i = absurd (cc)
  follow_args b q h (Some (array ds)) i = absurd (cc)
  follow_args b q h (Some (object vs)) i =
      subst (λ (p : Option Args). FollowsArgs p (args_in q (Some (completed (object (filled_members s scope vs)))))) (sym (args_settled b vs))
      (subst (λ (r : Option Args). FollowsArgs (args_changed b fit_first fit_last slpf_settled (Some None) vs) r) (sym (args_filled q vs))
      (args_follow (are_among arg_parts (names_of vs)) (time_by fit_first (codes "start_time") vs) (time_by fill (codes "start_time") vs)
      (time_by fit_last (codes "stop_time") vs) (time_by fill (codes "stop_time") vs) (time_by fit_first (codes "duration") vs) (time_by fill (codes "duration") vs)
      (filter_args_in b (option_map slpf_settled (get_member (codes "slpf") vs))) (filter_args_in q (option_map fill (get_member (codes "slpf") vs)))
      (first_follows (get_member (codes "start_time") vs)) (last_follows (get_member (codes "stop_time") vs)) (first_follows (get_member (codes "duration") vs))
      (filters_follow go s scope b q h (get_member (codes "slpf") vs))))

  pub same_filled_args : (b : Bool) (o : Option Data) → option_map_or opens_values o false ≡ false → is_absent_or is_object o ≡ true → is_some (filled_args b o) ≡ is_some (settled_args b o)
  same_filled_args b None e i = refl
  same_filled_args b (Some null) e i = absurd (cc)
  same_filled_args b (Some (boolean c)) e i = absurd (cc)
  same_filled_args b (Some (number n)) e i = absurd (cc)
  same_filled_args b (Some (string t)) e i = absurd (cc)
  same_filled_args b (Some (array ds)) e i = absurd (cc)
  same_filled_args b (Some (object vs)) e i =
      let p0 = both_false _ _ e in
      let p1 = both_false _ _ p0.0 in
      let p2 = both_false _ _ p1.1 in
      let p3 = both_false _ _ p2.1 in
      let only : Bool = are_among arg_parts (names_of vs) in
      let a : Part ℕ = time_by fit_first (codes "start_time") vs in
      let c : Part ℕ = time_by fit_last (codes "stop_time") vs in
      let d : Part ℕ = time_by fit_first (codes "duration") vs in
      let f : Option FilterArgs = filter_args_in b (option_map slpf_settled (get_member (codes "slpf") vs)) in
      ap is_some
      (args_filled b vs
      ∙ same_args only only (time_by fill (codes "start_time") vs) a (time_by fill (codes "stop_time") vs) c (time_by fill (codes "duration") vs) d
      (Some (Some (codes "complete"))) (Some (Some (codes "complete"))) (filter_args_in b (option_map fill (get_member (codes "slpf") vs))) f refl
      (same_optional go s scope time time_scalar (whole_data 0) 0 refl (get_member (codes "start_time") vs) p1.0)
      (same_optional go s scope time time_scalar (whole_data 9_007_199_254_740_991) 9_007_199_254_740_991 refl (get_member (codes "stop_time") vs) p2.0)
      (same_optional go s scope time time_scalar (whole_data 0) 0 refl (get_member (codes "duration") vs) p3.0)
      refl (same_filters go s scope b (get_member (codes "slpf") vs) p0.1))
      ∙ asked only a c d f
      ∙ ap is_some (sym (args_settled b vs))
    where
      -- whether a response is asked for is not kept
      asked : (only : Bool) (a c d : Part ℕ) (f : Option FilterArgs) → is_some (args_by only a c d (Some (Some (codes "complete"))) f) ≡ is_some (args_by only a c d (Some None) f)
      asked only None c d f = refl
      asked only (Some a) None d f = refl
      asked only (Some a) (Some c) None f = refl
      asked only (Some a) (Some c) (Some d) None = refl
      asked only (Some a) (Some c) (Some d) (Some f) = refl
