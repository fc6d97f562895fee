-- The arguments of a command that is filled, beside those whose open texts are set to what fits.
use Rattle.std.proofs.Common.{◌≡◌, refl, ap, subst, arith, ℕ, ◌≤◌, Bool, true, false, ◌&&◌, List, codes, Option, Some, None}
use Rattle.std.specs.Prelude.{nat_le, option_and_then, is_some, if◌then◌else◌, ⊤}
use Rattle.oc2_msg_targets.specs.Parts.{provided}
use Rattle.oc2_msg.specs.declared.arguments.Args.{Args}
use Rattle.oc2_msg.specs.declared.arguments.FilterArgs.{FilterArgs}
use Rattle.oc2_msg.specs.declared.directions.Direction.{Direction}
use Rattle.oc2_msg.specs.declared.drops.Drop3.{Drop3}
use Rattle.oc2_msg.specs.Args.{are_times, is_unserved, with_times}
use Rattle.cacao_view_preflight.proofs.TargetLemmas.{Follows, Part}

-- ---- the arguments of the profile

abbrev pub filter_by : Bool → Part Drop3 → Part Bool → Part Direction → Part ℕ → Option FilterArgs
filter_by only a b c d =
    provided only (option_and_then (λ w. option_and_then (λ x. option_and_then (λ y. option_and_then (λ z. Some (record { drop_process = w; persistent = x; direction = y; insert_rule = z })) d) c) b) a)

-- the same stand, and what is said of persistence is the same
pub record Alike (x y : FilterArgs) : Type 0 where
  pub dropped : is_some x.drop_process ≡ is_some y.drop_process
  pub kept : x.persistent ≡ y.persistent
  pub directed : is_some x.direction ≡ is_some y.direction
  pub inserted : is_some x.insert_rule ≡ is_some y.insert_rule

pub record FollowsFilter (p q : Option FilterArgs) : Type 0 where
  pub none : p ≡ None → q ≡ None
  pub alike : (x y : FilterArgs) → p ≡ Some x → q ≡ Some y → Alike x y

alike_made : (a p : Option Drop3) (b : Option Bool) (c r : Option Direction) (d t : Option ℕ) (x y : FilterArgs) → is_some a ≡ is_some p → is_some c ≡ is_some r → is_some d ≡ is_some t
    → Some (record { drop_process = a; persistent = b; direction = c; insert_rule = d }) ≡ Some x → Some (record { drop_process = p; persistent = b; direction = r; insert_rule = t }) ≡ Some y → Alike x y
alike_made a p b c r d t x y ea ec ed ex ey =
    let left : FilterArgs = record { drop_process = a; persistent = b; direction = c; insert_rule = d } in
    let right : FilterArgs = record { drop_process = p; persistent = b; direction = r; insert_rule = t } in
    let sx : left ≡ x = let e : Some left ≡ Some x = ex in cc in
    let sy : right ≡ y = let e : Some right ≡ Some y = ey in cc in
    subst (λ (x : FilterArgs). Alike x y) sx (subst (λ (y : FilterArgs). Alike left y) sy (record { dropped = ea; kept = refl; directed = ec; inserted = ed }))

pub filter_follows : (only : Bool) (a p : Part Drop3) (b : Part Bool) (c r : Part Direction) (d t : Part ℕ) → Follows a p → Follows c r → Follows d t → FollowsFilter (filter_by only a b c d) (filter_by only p b r t)
filter_follows false a p b c r d t fa fc fd = record { none = λ e. refl; alike = λ x y e f. absurd (let wrong : None ≡ Some x = e in cc) }
filter_follows true a None b c r d t fa fc fd = record { none = λ e. refl; alike = λ x y e f. absurd (let wrong : None ≡ Some y = f in cc) }
filter_follows true None (Some p) b c r d t fa fc fd = absurd (let wrong : Some p ≡ None = fa.none refl in cc)
filter_follows true (Some a) (Some p) None c r d t fa fc fd = record { none = λ e. refl; alike = λ x y e f. absurd (let wrong : None ≡ Some y = f in cc) }
filter_follows true (Some a) (Some p) (Some b) c None d t fa fc fd = record { none = λ e. refl; alike = λ x y e f. absurd (let wrong : None ≡ Some y = f in cc) }
filter_follows true (Some a) (Some p) (Some b) None (Some r) d t fa fc fd = absurd (let wrong : Some r ≡ None = fc.none refl in cc)
filter_follows true (Some a) (Some p) (Some b) (Some c) (Some r) d None fa fc fd = record { none = λ e. refl; alike = λ x y e f. absurd (let wrong : None ≡ Some y = f in cc) }
filter_follows true (Some a) (Some p) (Some b) (Some c) (Some r) None (Some t) fa fc fd = absurd (let wrong : Some t ≡ None = fd.none refl in cc)
filter_follows true (Some a) (Some p) (Some b) (Some c) (Some r) (Some d) (Some t) fa fc fd = record {
  none = λ e. absurd (let wrong : Some (record { drop_process = a; persistent = b; direction = c; insert_rule = d }) ≡ None = e in cc);
  alike = λ x y e f. alike_made a p b c r d t x y (fa.alike a p refl refl) (fc.alike c r refl refl) (fd.alike d t refl refl) e f;
}

-- ---- times

-- both stand, and the first is at most the second
abbrev pub AtMost : Option ℕ → Option ℕ → Type 0
AtMost None None = ⊤
AtMost (Some m) (Some n) = m ≤ n
AtMost None (Some n) = ⊥
AtMost (Some m) None = ⊥

le_through : (a x y b : ℕ) → a ≤ x → y ≤ b → nat_le x y ≡ true → nat_le a b ≡ true
le_through a x y b low high e = grind arith

first_true : (a b : Bool) → (a && b) ≡ true → a ≡ true
first_true true b e = refl
first_true false b e = absurd (cc)

times_fit : (a b c x y z : Option ℕ) → AtMost a x → AtMost y b → AtMost c z → are_times x y z ≡ true → are_times a b c ≡ true
times_fit None None None None None None h i j e = refl
times_fit None None (Some c) None None (Some z) h i j e = refl
times_fit (Some a) None None (Some x) None None h i j e = refl
times_fit (Some a) None (Some c) (Some x) None (Some z) h i j e = refl
times_fit None (Some b) None None (Some y) None h i j e = refl
times_fit None (Some b) (Some c) None (Some y) (Some z) h i j e = le_through c z y b j i e
times_fit (Some a) (Some b) None (Some x) (Some y) None h i j e =
    ap (λ t. t && true) (le_through a x y b h i (first_true (nat_le x y) true e))
times_fit (Some a) (Some b) (Some c) (Some x) (Some y) (Some z) h i j e = absurd (let wrong : false ≡ true = e in cc)
times_fit None b c (Some x) y z h i j e = absurd h
times_fit (Some a) b c None y z h i j e = absurd h
times_fit None None c None (Some y) z h i j e = absurd i
times_fit None (Some b) c None None z h i j e = absurd i
times_fit (Some a) None c (Some x) (Some y) z h i j e = absurd i
times_fit (Some a) (Some b) c (Some x) None z h i j e = absurd i
times_fit None None None None None (Some z) h i j e = absurd j
times_fit None None (Some c) None None None h i j e = absurd j
times_fit None (Some b) None None (Some y) (Some z) h i j e = absurd j
times_fit None (Some b) (Some c) None (Some y) None h i j e = absurd j
times_fit (Some a) None None (Some x) None (Some z) h i j e = absurd j
times_fit (Some a) None (Some c) (Some x) None None h i j e = absurd j
times_fit (Some a) (Some b) None (Some x) (Some y) (Some z) h i j e = absurd j
times_fit (Some a) (Some b) (Some c) (Some x) (Some y) None h i j e = absurd j

pub record FollowsTime (R : Option ℕ → Option ℕ → Type 0) (p q : Part ℕ) : Type 0 where
  pub none : p ≡ None → q ≡ None
  pub related : (x y : Option ℕ) → p ≡ Some x → q ≡ Some y → R x y
  pub alike : (x y : Option ℕ) → p ≡ Some x → q ≡ Some y → is_some x ≡ is_some y

-- ---- all of them

abbrev pub made : Option ℕ → Option ℕ → Option ℕ → FilterArgs → Args
made a b c f = record { start_time = a; stop_time = b; duration = c; slpf = f }

abbrev pub args_by : Bool → Part ℕ → Part ℕ → Part ℕ → Part (List ℕ) → Option FilterArgs → Option Args
args_by only a b c r f =
    provided only (option_and_then with_times (option_and_then (λ v. option_and_then (λ w. option_and_then (λ x. option_and_then (λ y. option_and_then (λ z. Some (made v w x z)) f) r) c) b) a))

abbrev pub FollowsArgs : Option Args → Option Args → Type 0
FollowsArgs p q = (p ≡ None → q ≡ None) × ((x y : Args) → p ≡ Some x → q ≡ Some y → (adds : Bool) → is_unserved adds y ≡ is_unserved adds x)

unserved_alike : (adds : Bool) (a b c x y z : Option ℕ) (f g : FilterArgs) → is_some a ≡ is_some x → is_some b ≡ is_some y → is_some c ≡ is_some z → Alike f g
    → is_unserved adds (made x y z g) ≡ is_unserved adds (made a b c f)
unserved_alike adds a b c x y z f g ha hb hc k = rw (ha, hb, hc, k.dropped, k.kept, k.directed, k.inserted) refl

none_if : (p q : Bool) (x y : Args) → (q ≡ true → p ≡ true) → (if p then Some x else None) ≡ None → (if q then Some y else None) ≡ None
none_if true q x y h e = absurd (cc)
none_if false true x y h e = absurd (let wrong : false ≡ true = h refl in cc)
none_if false false x y h e = refl

some_if : (p : Bool) (x y : Args) → (if p then Some x else None) ≡ Some y → x ≡ y
some_if true x y e = let same : Some x ≡ Some y = e in cc
some_if false x y e = absurd (cc)

pub args_follow : (only : Bool) (a p : Part ℕ) (b q : Part ℕ) (c r : Part ℕ) (f g : Option FilterArgs)
    → FollowsTime AtMost a p → FollowsTime (λ x y. AtMost y x) b q → FollowsTime AtMost c r → FollowsFilter f g
    → FollowsArgs (args_by only a b c (Some None) f) (args_by only p q r (Some (Some (codes "complete"))) g)
args_follow false a p b q c r f g fa fb fc ff = ((λ e. refl), (λ x y e h adds. absurd (let wrong : None ≡ Some x = e in cc)))
args_follow true a None b q c r f g fa fb fc ff = ((λ e. refl), (λ x y e h adds. absurd (let wrong : None ≡ Some y = h in cc)))
args_follow true None (Some p) b q c r f g fa fb fc ff = absurd (let wrong : Some p ≡ None = fa.none refl in cc)
args_follow true (Some a) (Some p) b None c r f g fa fb fc ff = ((λ e. refl), (λ x y e h adds. absurd (let wrong : None ≡ Some y = h in cc)))
args_follow true (Some a) (Some p) None (Some q) c r f g fa fb fc ff = absurd (let wrong : Some q ≡ None = fb.none refl in cc)
args_follow true (Some a) (Some p) (Some b) (Some q) c None f g fa fb fc ff = ((λ e. refl), (λ x y e h adds. absurd (let wrong : None ≡ Some y = h in cc)))
args_follow true (Some a) (Some p) (Some b) (Some q) None (Some r) f g fa fb fc ff = absurd (let wrong : Some r ≡ None = fc.none refl in cc)
args_follow true (Some a) (Some p) (Some b) (Some q) (Some c) (Some r) f None fa fb fc ff = ((λ e. refl), (λ x y e h adds. absurd (let wrong : None ≡ Some y = h in cc)))
args_follow true (Some a) (Some p) (Some b) (Some q) (Some c) (Some r) None (Some g) fa fb fc ff = absurd (let wrong : Some g ≡ None = ff.none refl in cc)
args_follow true (Some a) (Some p) (Some b) (Some q) (Some c) (Some r) (Some f) (Some g) fa fb fc ff = (
  none_if (are_times a b c) (are_times p q r) (made a b c f) (made p q r g) (times_fit a b c p q r (fa.related a p refl refl) (fb.related b q refl refl) (fc.related c r refl refl)),
  (λ x y e h adds.
      subst (λ (x : Args). is_unserved adds y ≡ is_unserved adds x) (some_if (are_times a b c) (made a b c f) x e)
      (subst (λ (y : Args). is_unserved adds y ≡ is_unserved adds (made a b c f)) (some_if (are_times p q r) (made p q r g) y h)
      (unserved_alike adds a b c p q r f g (fa.alike a p refl refl) (fb.alike b q refl refl) (fc.alike c r refl refl) (ff.alike f g refl refl)))),
)
