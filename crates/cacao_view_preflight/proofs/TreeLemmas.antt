-- A command whose open texts are set to what fits is of the profile of trees, where the command is.
use Rattle.std.proofs.Common.{◌≡◌, refl, ap, arith, ltb-true, ℕ, zero, suc, nat_lt, ◌&&◌, ◌≤◌, max, Bool, true, false, List, [], ◌∷◌, codes, Option, Some, None, IsUtf8, Ordering, Less, Equal, Greater, nat_cmp}
use Rattle.std.specs.Prelude.{if◌then◌else◌}
use Rattle.std.specs.List.{list_all}
use Rattle.std.specs.Option.{option_map_or}
use Rattle.std.specs.Ordering.{match_ordering}
use Rattle.std.specs.Cmp.Lexicographic.{slice_cmp}
use Rattle.std.specs.Str.{bytes_eq, IsAscii}
use Rattle.std.proofs.lemmas.Str.{IsUtf8-from_ascii}
use Rattle.serde_json.specs.Data.{Data, null, boolean, number, string, array, object, Items, no_items, item, Members, no_members, member, put, depth, items_depth, members_depth}
use Rattle.serde_json.specs.Find.{get_member}
use Rattle.cacao_json.specs.Tree.{without}
use Rattle.cacao_json.specs.Profile.{IsTree, AreFormed}
use Rattle.cacao_json.specs.Laws.{MembersHaveProfile, PutKeepsProfile, RemovalKeepsProfile}
use Rattle.oc2_msg_targets.specs.declared.actions.Action.{Action}
use Rattle.oc2_msg_targets.specs.declared.actions.Action.TheVariants as action
use Rattle.oc2_msg_targets.specs.declared.kinds.TargetKind.{TargetKind}
use Rattle.oc2_msg_targets.specs.declared.kinds.TargetKind.TheVariants as kind
use Rattle.oc2_msg_targets.specs.Parts.{whole_data}
use Rattle.oc2_msg_targets.specs.Words.{action_word, kind_named}
use Rattle.cacao_view_preflight.specs.Settled.{args_members, changed, closed_items, command_members, command_settled, connection_members, fitting_action, in_array, in_object, is_open, named_settled, set_if_open, settled, slpf_members, target_settled, value_settled}

first_of : (a b : Bool) → (a && b) ≡ true → (a ≡ true) × (b ≡ true)
first_of true b e = (refl, e)
first_of false b e = absurd (cc)

ascii_of : (text : List ℕ) → list_all (λ c. nat_lt c 128) text ≡ true → IsAscii text
ascii_of [] e i = omega arith
ascii_of (c ∷ text) e zero = ltb-true c 128 (first_of _ _ e).0
ascii_of (c ∷ text) e (suc i) = ascii_of text (first_of _ _ e).1 i

utf8 : (text : List ℕ) → IsAscii text → IsUtf8 text
utf8 text a = IsUtf8-from_ascii text a

-- ---- depths

depth_by : (o : Ordering) (a b c : Members) (n : ℕ) → members_depth a ≤ n → members_depth b ≤ n → members_depth c ≤ n → members_depth (match_ordering o a b c) ≤ n
depth_by Less a b c n x y z = x
depth_by Equal a b c n x y z = y
depth_by Greater a b c n x y z = z

depth_put : (k : List ℕ) (d : Data) (ms : Members) → members_depth (put k d ms) ≤ max (depth d) (members_depth ms)
depth_put k d no_members = omega arith
depth_put k d (member l e ms) =
    depth_by (slice_cmp nat_cmp k l) (member k d (member l e ms)) (member l d ms) (member l e (put k d ms)) _ (omega arith) (omega arith) (omega (arith, depth_put k d ms))

depth_or : (b : Bool) (x y : Members) (n : ℕ) → members_depth x ≤ n → members_depth y ≤ n → members_depth (if b then x else y) ≤ n
depth_or true x y n v w = v
depth_or false x y n v w = w

depth_without : (k : List ℕ) (ms : Members) → members_depth (without k ms) ≤ members_depth ms
depth_without k no_members = omega arith
depth_without k (member l e ms) = depth_or (bytes_eq k l) (without k ms) (member l e (without k ms)) _ (omega (arith, depth_without k ms)) (omega (arith, depth_without k ms))

depth_found : (k : List ℕ) (ms : Members) (e : Data) → get_member k ms ≡ Some e → depth e ≤ members_depth ms
depth_found k no_members e h = absurd (cc)
depth_found k (member l d ms) e h = by (slice_cmp nat_cmp k l) h (λ i. depth_found k ms e i)
  where
    by : (o : Ordering) → match_ordering o (get_member k ms) (Some d) (get_member k ms) ≡ Some e → (get_member k ms ≡ Some e → depth e ≤ members_depth ms) → depth e ≤ max (depth d) (members_depth ms)
    by Less h ih = omega (arith, ih h)
    by Equal h ih = let same : d ≡ e = (let s : Some d ≡ Some e = h in cc) in omega (arith, ap depth same)
    by Greater h ih = omega (arith, ih h)

-- ---- what keeps the profile, and gets no deeper

abbrev Keeps : (Data → Data) → Type 0
Keeps f = (d : Data) → IsTree d → IsTree (f d) × (depth (f d) ≤ depth d)

abbrev KeepsMembers : (Members → Members) → Type 0
KeepsMembers f = (ms : Members) → IsTree (object ms) → IsTree (object (f ms)) × (members_depth (f ms) ≤ members_depth ms)

module _ (puts : PutKeepsProfile) (removal : RemovalKeepsProfile) (parts : MembersHaveProfile) where
  keeps_without : (n : List ℕ) → KeepsMembers (without n)
  keeps_without n ms t = (removal n ms t, depth_without n ms)

  keeps_changed : (n : List ℕ) → IsUtf8 n → (f : Data → Data) → Keeps f → KeepsMembers (changed n f)
  keeps_changed n u f k ms t = by (get_member n ms) refl
    where
      by : (o : Option Data) → get_member n ms ≡ o
          → IsTree (object (option_map_or (λ d. put n (f d) (without n ms)) o (without n ms))) × (members_depth (option_map_or (λ d. put n (f d) (without n ms)) o (without n ms)) ≤ members_depth ms)
      by None e = keeps_without n ms t
      by (Some d) e =
          let low : depth d ≤ members_depth ms = depth_found n ms d e in
          let kept = k d (parts n (object ms) d t e) in
          let rest = removal n ms t in (
            puts n (f d) (without n ms) u kept.0 (omega (arith, kept.1, low, t.shallow)) rest,
            omega (arith, depth_put n (f d) (without n ms), depth_without n ms, kept.1, low),
          )

  then_keeps : (f g : Members → Members) → KeepsMembers f → KeepsMembers g → KeepsMembers (λ ms. g (f ms))
  then_keeps f g kf kg ms t = let p = kf ms t in let q = kg (f ms) p.0 in (q.0, omega (arith, p.1, q.1))

  in_object_keeps : (f : Members → Members) → KeepsMembers f → Keeps (in_object f)
  in_object_keeps f k null t = (t, omega arith)
  in_object_keeps f k (boolean b) t = (t, omega arith)
  in_object_keeps f k (number n) t = (t, omega arith)
  in_object_keeps f k (string s) t = (t, omega arith)
  in_object_keeps f k (array ds) t = (t, omega arith)
  in_object_keeps f k (object ms) t = let p = k ms t in (p.0, omega (arith, p.1))

  fits_keeps : (fitting : Data) → IsTree fitting → depth fitting ≡ 0 → Keeps (set_if_open fitting)
  fits_keeps fitting f z d t = by (is_open d)
    where
      by : (b : Bool) → IsTree (if b then fitting else d) × (depth (if b then fitting else d) ≤ depth d)
      by true = (f, omega (arith, z))
      by false = (t, omega arith)

  text_keeps : (text : List ℕ) → IsAscii text → Keeps (set_if_open (string text))
  text_keeps text a = fits_keeps (string text) (record { shallow = omega arith; formed = utf8 text a }) refl

  zero_keeps : Keeps (set_if_open (whole_data 0))
  zero_keeps = fits_keeps (whole_data 0) (record { shallow = omega arith; formed = refl }) refl

  one_keeps : Keeps (set_if_open (whole_data 1))
  one_keeps = fits_keeps (whole_data 1) (record { shallow = omega arith; formed = refl }) refl

  last_keeps : Keeps (set_if_open (whole_data 9_007_199_254_740_991))
  last_keeps = fits_keeps (whole_data 9_007_199_254_740_991) (record { shallow = omega arith; formed = refl }) refl

  named_keeps : (n : List ℕ) → IsAscii n → (f : Data → Data) → Keeps f → KeepsMembers (changed n f)
  named_keeps n a f k = keeps_changed n (utf8 n a) f k

  connection_keeps : (net : List ℕ) → IsAscii net → KeepsMembers (connection_members net)
  connection_keeps net a =
      then_keeps (λ ms. settled (codes "src_port") (whole_data 0) (settled (codes "dst_addr") (string net) (settled (codes "src_addr") (string net) (settled (codes "protocol") (string (codes "tcp")) ms))))
      (settled (codes "dst_port") (whole_data 0))
      (then_keeps (λ ms. settled (codes "dst_addr") (string net) (settled (codes "src_addr") (string net) (settled (codes "protocol") (string (codes "tcp")) ms))) (settled (codes "src_port") (whole_data 0))
      (then_keeps (λ ms. settled (codes "src_addr") (string net) (settled (codes "protocol") (string (codes "tcp")) ms)) (settled (codes "dst_addr") (string net))
      (then_keeps (settled (codes "protocol") (string (codes "tcp"))) (settled (codes "src_addr") (string net))
      (named_keeps (codes "protocol") (ascii_of (codes "protocol") refl) (set_if_open (string (codes "tcp"))) (text_keeps (codes "tcp") (ascii_of (codes "tcp") refl)))
      (named_keeps (codes "src_addr") (ascii_of (codes "src_addr") refl) (set_if_open (string net)) (text_keeps net a)))
      (named_keeps (codes "dst_addr") (ascii_of (codes "dst_addr") refl) (set_if_open (string net)) (text_keeps net a)))
      (named_keeps (codes "src_port") (ascii_of (codes "src_port") refl) (set_if_open (whole_data 0)) zero_keeps))
      (named_keeps (codes "dst_port") (ascii_of (codes "dst_port") refl) (set_if_open (whole_data 0)) zero_keeps)

  slpf_keeps : KeepsMembers slpf_members
  slpf_keeps =
      then_keeps (λ ms. settled (codes "direction") (string (codes "both")) (settled (codes "drop_process") (string (codes "none")) ms)) (settled (codes "insert_rule") (whole_data 1))
      (then_keeps (settled (codes "drop_process") (string (codes "none"))) (settled (codes "direction") (string (codes "both")))
      (named_keeps (codes "drop_process") (ascii_of (codes "drop_process") refl) (set_if_open (string (codes "none"))) (text_keeps (codes "none") (ascii_of (codes "none") refl)))
      (named_keeps (codes "direction") (ascii_of (codes "direction") refl) (set_if_open (string (codes "both"))) (text_keeps (codes "both") (ascii_of (codes "both") refl))))
      (named_keeps (codes "insert_rule") (ascii_of (codes "insert_rule") refl) (set_if_open (whole_data 1)) one_keeps)

  args_keeps : KeepsMembers args_members
  args_keeps =
      then_keeps (λ ms. settled (codes "stop_time") (whole_data 9_007_199_254_740_991) (settled (codes "duration") (whole_data 0) (settled (codes "start_time") (whole_data 0) (without (codes "response_requested") ms))))
      (changed (codes "slpf") (in_object slpf_members))
      (then_keeps (λ ms. settled (codes "duration") (whole_data 0) (settled (codes "start_time") (whole_data 0) (without (codes "response_requested") ms))) (settled (codes "stop_time") (whole_data 9_007_199_254_740_991))
      (then_keeps (λ ms. settled (codes "start_time") (whole_data 0) (without (codes "response_requested") ms)) (settled (codes "duration") (whole_data 0))
      (then_keeps (without (codes "response_requested")) (settled (codes "start_time") (whole_data 0)) (keeps_without (codes "response_requested"))
      (named_keeps (codes "start_time") (ascii_of (codes "start_time") refl) (set_if_open (whole_data 0)) zero_keeps))
      (named_keeps (codes "duration") (ascii_of (codes "duration") refl) (set_if_open (whole_data 0)) zero_keeps))
      (named_keeps (codes "stop_time") (ascii_of (codes "stop_time") refl) (set_if_open (whole_data 9_007_199_254_740_991)) last_keeps))
      (named_keeps (codes "slpf") (ascii_of (codes "slpf") refl) (in_object slpf_members) (in_object_keeps slpf_members slpf_keeps))

  -- ---- the target

  formed_or : (b : Bool) (ds es : Items) → AreFormed ds → AreFormed es → AreFormed (if b then ds else es)
  formed_or true ds es f g = f
  formed_or false ds es f g = g

  formed_closed : (ds : Items) → AreFormed ds → AreFormed (closed_items ds)
  formed_closed no_items f = f
  formed_closed (item d ds) f = formed_or (is_open d) (closed_items ds) (item d (closed_items ds)) (formed_closed ds f.1) (f.0, formed_closed ds f.1)

  items_or : (b : Bool) (ds es : Items) (n : ℕ) → items_depth ds ≤ n → items_depth es ≤ n → items_depth (if b then ds else es) ≤ n
  items_or true ds es n f g = f
  items_or false ds es n f g = g

  depth_closed : (ds : Items) → items_depth (closed_items ds) ≤ items_depth ds
  depth_closed no_items = omega arith
  depth_closed (item d ds) = items_or (is_open d) (closed_items ds) (item d (closed_items ds)) _ (omega (arith, depth_closed ds)) (omega (arith, depth_closed ds))

  value_keeps : (k : TargetKind) → Keeps (value_settled k)
  value_keeps kind.Ipv4Net = text_keeps (codes "0.0.0.0") (ascii_of (codes "0.0.0.0") refl)
  value_keeps kind.Ipv6Net = text_keeps (codes "::") (ascii_of (codes "::") refl)
  value_keeps kind.Ipv4Connection = in_object_keeps (connection_members (codes "0.0.0.0")) (connection_keeps (codes "0.0.0.0") (ascii_of (codes "0.0.0.0") refl))
  value_keeps kind.Ipv6Connection = in_object_keeps (connection_members (codes "::")) (connection_keeps (codes "::") (ascii_of (codes "::") refl))
  value_keeps kind.RuleNumber = one_keeps
  value_keeps kind.File = λ d t. (t, omega arith)
  value_keeps kind.Features = list
    where
      list : Keeps (in_array closed_items)
      list null t = (t, omega arith)
      list (boolean b) t = (t, omega arith)
      list (number n) t = (t, omega arith)
      list (string s) t = (t, omega arith)
      list (array ds) t = (record { shallow = omega (arith, depth_closed ds, t.shallow); formed = formed_closed ds t.formed }, omega (arith, depth_closed ds))
      list (object ms) t = (t, omega arith)

  named_value_keeps : (name : List ℕ) → Keeps (named_settled name)
  named_value_keeps name d t = by (kind_named name)
    where
      by : (o : Option TargetKind) → IsTree (option_map_or (λ k. value_settled k d) o d) × (depth (option_map_or (λ k. value_settled k d) o d) ≤ depth d)
      by None = (t, omega arith)
      by (Some k) = value_keeps k d t

  target_keeps : Keeps target_settled
  target_keeps null t = (t, omega arith)
  target_keeps (boolean b) t = (t, omega arith)
  target_keeps (number n) t = (t, omega arith)
  target_keeps (string s) t = (t, omega arith)
  target_keeps (array ds) t = (t, omega arith)
  target_keeps (object no_members) t = (t, omega arith)
  target_keeps (object (member name d no_members)) t =
      let inner : IsTree d = record { shallow = omega (arith, t.shallow); formed = t.formed.1 } in
      let p = named_value_keeps name d inner in (
        record { shallow = omega (arith, p.1, t.shallow); formed = (t.formed.0, p.0.formed, tt, tt) },
        omega (arith, p.1),
      )
  target_keeps (object (member name d (member other e ms))) t = (t, omega arith)

  -- ---- the command

  word_ascii : (a : Action) → IsAscii (action_word a)
  word_ascii action.Allow = ascii_of (codes "allow") refl
  word_ascii action.Deny = ascii_of (codes "deny") refl
  word_ascii action.Delete = ascii_of (codes "delete") refl
  word_ascii action.Update = ascii_of (codes "update") refl
  word_ascii action.Query = ascii_of (codes "query") refl

  command_keeps : (a : Action) → KeepsMembers (command_members a)
  command_keeps a =
      then_keeps (λ ms. changed (codes "target") target_settled (settled (codes "action") (string (action_word a)) (without (codes "command_id") ms))) (changed (codes "args") (in_object args_members))
      (then_keeps (λ ms. settled (codes "action") (string (action_word a)) (without (codes "command_id") ms)) (changed (codes "target") target_settled)
      (then_keeps (without (codes "command_id")) (settled (codes "action") (string (action_word a))) (keeps_without (codes "command_id"))
      (named_keeps (codes "action") (ascii_of (codes "action") refl) (set_if_open (string (action_word a))) (text_keeps (action_word a) (word_ascii a))))
      (named_keeps (codes "target") (ascii_of (codes "target") refl) target_settled target_keeps))
      (named_keeps (codes "args") (ascii_of (codes "args") refl) (in_object args_members) (in_object_keeps args_members args_keeps))

  pub settled_tree : (d : Data) → IsTree d → IsTree (command_settled d)
  settled_tree d t = (in_object_keeps (command_members (fitting_action d)) (command_keeps (fitting_action d)) d t).0
