-- The value of a target that is filled, beside that of one whose open texts are set to what fits.
use Rattle.std.proofs.Common.{◌≡◌, ◌∙◌, refl, sym, ap, ℕ, Bool, true, false, ◌||◌, List, codes, Option, Some, None}
use Rattle.std.specs.Prelude.{option_map, option_and_then, is_some, if◌then◌else◌}
use Rattle.std.specs.Str.{bytes_eq}
use Rattle.serde_json.specs.Data.{Data, string, object, Members}
use Rattle.serde_json.specs.Find.{as_str, get_member}
use Rattle.cacao_vars.specs.References.{ReferencesGoOn}
use Rattle.flow_core_rules.specs.State.{Lists}
use Rattle.flow_core_rules.specs.Filled.{filled, filled_members}
use Rattle.oc2_nets.specs.declared.packets.Protocol.{Protocol}
use Rattle.oc2_nets.specs.declared.flows.Flow.{Flow}
use Rattle.oc2_msg_targets.specs.declared.kinds.TargetKind.TheVariants as kind
use Rattle.oc2_msg_targets.specs.declared.targets.Target.{Target}
use Rattle.oc2_msg_targets.specs.declared.targets.Target.TheVariants as target
use Rattle.oc2_msg_targets.specs.Parts.{are_among, names_of, optional, provided, whole_data}
use Rattle.oc2_msg_targets.specs.Features.{feature_in}
use Rattle.oc2_msg_targets.specs.Targets.{connection_parts, has_part, net4_in, net6_in, port, protocol_in, target_in, with_part}
use Rattle.cacao_view_preflight.specs.Settled.{are_open_at, changed, connection_members, set_if_open, settled}
use Rattle.cacao_view_preflight.proofs.NameLemmas.{among_changed, get_changed, get_changed_other, other_name}
use Rattle.cacao_view_preflight.proofs.FillLemmas.{IsScalar, get-filled, names-filled, none_optional, same_optional}

-- ---- five parts of a connection

abbrev pub Part : Type 0 → Type 0
Part A = Option (Option A)

abbrev pub Makes : Type 0 → Type 0
Makes Net = Option Protocol → Option Net → Option ℕ → Option Net → Option ℕ → Flow

abbrev pub connected : {Net : Type 0} → Makes Net → Bool → Part Protocol → Part Net → Part ℕ → Part Net → Part ℕ → Option Target
connected make only a b c d e =
    option_map target.Flow (provided only (option_and_then with_part
    (option_and_then (λ v. option_and_then (λ w. option_and_then (λ x. option_and_then (λ y. option_and_then (λ z. Some (make v w x y z)) e) d) c) b) a)))

-- where the first is none, so is the second; where both stand, both have a value or none
pub record Follows {A : Type 0} (p q : Part A) : Type 0 where
  pub none : p ≡ None → q ≡ None
  pub alike : (x y : Option A) → p ≡ Some x → q ≡ Some y → is_some x ≡ is_some y

none_if : (b c : Bool) (f g : Flow) → b ≡ c → option_map target.Flow (if b then Some f else None) ≡ None → option_map target.Flow (if c then Some g else None) ≡ None
none_if true c f g e n = absurd (cc)
none_if false true f g e n = absurd (cc)
none_if false false f g e n = refl

module _ {Net : Type 0} (make : Makes Net)
    (has : (a : Option Protocol) (b : Option Net) (c : Option ℕ) (d : Option Net) (e : Option ℕ) → has_part (make a b c d e) ≡ (is_some a || is_some b || is_some c || is_some d || is_some e)) where
  none_connected : (only : Bool) (a p : Part Protocol) (b q : Part Net) (c r : Part ℕ) (d s : Part Net) (e t : Part ℕ) → Follows a p → Follows b q → Follows c r → Follows d s → Follows e t
      → connected make only a b c d e ≡ None → connected make only p q r s t ≡ None
  none_connected false a p b q c r d s e t fa fb fc fd fe n = refl
  none_connected true a None b q c r d s e t fa fb fc fd fe n = refl
  none_connected true None (Some p) b q c r d s e t fa fb fc fd fe n = absurd (let wrong : Some p ≡ None = fa.none refl in cc)
  none_connected true (Some a) (Some p) b None c r d s e t fa fb fc fd fe n = refl
  none_connected true (Some a) (Some p) None (Some q) c r d s e t fa fb fc fd fe n = absurd (let wrong : Some q ≡ None = fb.none refl in cc)
  none_connected true (Some a) (Some p) (Some b) (Some q) c None d s e t fa fb fc fd fe n = refl
  none_connected true (Some a) (Some p) (Some b) (Some q) None (Some r) d s e t fa fb fc fd fe n = absurd (let wrong : Some r ≡ None = fc.none refl in cc)
  none_connected true (Some a) (Some p) (Some b) (Some q) (Some c) (Some r) d None e t fa fb fc fd fe n = refl
  none_connected true (Some a) (Some p) (Some b) (Some q) (Some c) (Some r) None (Some s) e t fa fb fc fd fe n = absurd (let wrong : Some s ≡ None = fd.none refl in cc)
  none_connected true (Some a) (Some p) (Some b) (Some q) (Some c) (Some r) (Some d) (Some s) e None fa fb fc fd fe n = refl
  none_connected true (Some a) (Some p) (Some b) (Some q) (Some c) (Some r) (Some d) (Some s) None (Some t) fa fb fc fd fe n = absurd (let wrong : Some t ≡ None = fe.none refl in cc)
  none_connected true (Some a) (Some p) (Some b) (Some q) (Some c) (Some r) (Some d) (Some s) (Some e) (Some t) fa fb fc fd fe n =
      none_if (has_part (make a b c d e)) (has_part (make p q r s t)) (make a b c d e) (make p q r s t)
      (has a b c d e ∙ rw (fa.alike a p refl refl, fb.alike b q refl refl, fc.alike c r refl refl, fd.alike d s refl refl, fe.alike e t refl refl) refl ∙ sym (has p q r s t))
      n

-- ---- readers of scalars

pub net4_scalar : IsScalar net4_in
net4_scalar = record { arrays = λ ds. refl; objects = λ ms. refl }

pub net6_scalar : IsScalar net6_in
net6_scalar = record { arrays = λ ds. refl; objects = λ ms. refl }

protocol_scalar : IsScalar protocol_in
protocol_scalar = record { arrays = λ ds. refl; objects = λ ms. refl }

port_scalar : IsScalar port
port_scalar = record { arrays = λ ds. refl; objects = λ ms. refl }

pub text_scalar : IsScalar as_str
text_scalar = record { arrays = λ ds. refl; objects = λ ms. refl }

pub feature_scalar : IsScalar feature_in
feature_scalar = record { arrays = λ ds. refl; objects = λ ms. refl }

pub kind_scalar4 : IsScalar (target_in kind.Ipv4Net)
kind_scalar4 = record { arrays = λ ds. refl; objects = λ ms. refl }

pub kind_scalar6 : IsScalar (target_in kind.Ipv6Net)
kind_scalar6 = record { arrays = λ ds. refl; objects = λ ms. refl }

pub number_scalar : IsScalar (target_in kind.RuleNumber)
number_scalar = record { arrays = λ ds. refl; objects = λ ms. refl }

absent : {A : Type 0} (x : Option A) → Some None ≡ Some x → is_some x ≡ false
absent None e = refl
absent (Some a) e = absurd (cc)

present : {A : Type 0} (o x : Option A) → option_map Some o ≡ Some x → is_some x ≡ true
present None x e = absurd (cc)
present (Some a) None e = absurd (cc)
present (Some a) (Some b) e = refl

-- an optional part has a value where it stands
pub alike_optional : {A : Type 0} (read other : Data → Option A) (f g : Data → Data) (o : Option Data) (x y : Option A) → optional read (option_map f o) ≡ Some x → optional other (option_map g o) ≡ Some y → is_some x ≡ is_some y
alike_optional read other f g None x y e h = absent x e ∙ sym (absent y h)
alike_optional read other f g (Some d) x y e h = present (read (f d)) x e ∙ sym (present (other (g d)) y h)

pub both_false : (a b : Bool) → (a || b) ≡ false → (a ≡ false) × (b ≡ false)
both_false true b e = absurd (cc)
both_false false b e = (refl, e)

pub none_map : {A B : Type 0} (f : A → B) (o : Option A) → option_map f o ≡ None → o ≡ None
none_map f None e = refl
none_map f (Some a) e = absurd (cc)

pub skip : (k n : List ℕ) (f : Data → Data) (ms : Members) → bytes_eq k n ≡ false → get_member k (changed n f ms) ≡ get_member k ms
skip k n f ms e = get_changed_other k n f ms (other_name k n e)

-- ---- a connection, by the members that it has

abbrev pub connected_at : {Net : Type 0} → Makes Net → (Data → Option Net) → Members → Option Target
connected_at make net_in ns =
    connected make (are_among connection_parts (names_of ns)) (optional protocol_in (get_member (codes "protocol") ns)) (optional net_in (get_member (codes "src_addr") ns))
    (optional port (get_member (codes "src_port") ns)) (optional net_in (get_member (codes "dst_addr") ns)) (optional port (get_member (codes "dst_port") ns))

same_connected : {Net : Type 0} (make : Makes Net) (o o' : Bool) (a a' : Part Protocol) (b b' : Part Net) (c c' : Part ℕ) (d d' : Part Net) (e e' : Part ℕ) → o ≡ o' → a ≡ a' → b ≡ b' → c ≡ c' → d ≡ d' → e ≡ e'
    → connected make o a b c d e ≡ connected make o' a' b' c' d' e'
same_connected make o o' a a' b b' c c' d d' e e' ho ha hb hc hd he = rw (ho, ha, hb, hc, hd, he) refl

abbrev changed_part : {A : Type 0} → (Data → Option A) → (Data → Data) → List ℕ → Members → Part A
changed_part read f name ws = optional read (option_map f (get_member name ws))

-- all parts of the members, changed
abbrev connected_by : {Net : Type 0} → Makes Net → (Data → Option Net) → (Data → Data) → (Data → Data) → (Data → Data) → Members → Option Target
connected_by make net_in protocol net whole ws =
    connected make (are_among connection_parts (names_of ws)) (changed_part protocol_in protocol (codes "protocol") ws) (changed_part net_in net (codes "src_addr") ws)
    (changed_part port whole (codes "src_port") ws) (changed_part net_in net (codes "dst_addr") ws) (changed_part port whole (codes "dst_port") ws)

module _ {Net : Type 0} (make : Makes Net) (net_in : Data → Option Net) (net : List ℕ) (ws : Members) where
  abbrev m1 : Members
  m1 = settled (codes "protocol") (string (codes "tcp")) ws

  abbrev m2 : Members
  m2 = settled (codes "src_addr") (string net) m1

  abbrev m3 : Members
  m3 = settled (codes "dst_addr") (string net) m2

  abbrev m4 : Members
  m4 = settled (codes "src_port") (whole_data 0) m3

  abbrev fit_net : Data → Data
  fit_net = set_if_open (string net)

  abbrev fit_port : Data → Data
  fit_port = set_if_open (whole_data 0)

  abbrev fit_protocol : Data → Data
  fit_protocol = set_if_open (string (codes "tcp"))

  settled_connection : connected_at make net_in (connection_members net ws) ≡ connected_by make net_in fit_protocol fit_net fit_port ws
  settled_connection =
      same_connected make (are_among connection_parts (names_of (connection_members net ws))) (are_among connection_parts (names_of ws))
      (optional protocol_in (get_member (codes "protocol") (connection_members net ws))) (changed_part protocol_in fit_protocol (codes "protocol") ws)
      (optional net_in (get_member (codes "src_addr") (connection_members net ws))) (changed_part net_in fit_net (codes "src_addr") ws)
      (optional port (get_member (codes "src_port") (connection_members net ws))) (changed_part port fit_port (codes "src_port") ws)
      (optional net_in (get_member (codes "dst_addr") (connection_members net ws))) (changed_part net_in fit_net (codes "dst_addr") ws)
      (optional port (get_member (codes "dst_port") (connection_members net ws))) (changed_part port fit_port (codes "dst_port") ws)
      (among_changed connection_parts (codes "dst_port") fit_port m4 refl ∙ among_changed connection_parts (codes "src_port") fit_port m3 refl
      ∙ among_changed connection_parts (codes "dst_addr") fit_net m2 refl ∙ among_changed connection_parts (codes "src_addr") fit_net m1 refl
      ∙ among_changed connection_parts (codes "protocol") fit_protocol ws refl)
      (ap (optional protocol_in)
      (skip (codes "protocol") (codes "dst_port") fit_port m4 refl ∙ skip (codes "protocol") (codes "src_port") fit_port m3 refl ∙ skip (codes "protocol") (codes "dst_addr") fit_net m2 refl
      ∙ skip (codes "protocol") (codes "src_addr") fit_net m1 refl ∙ get_changed (codes "protocol") fit_protocol ws))
      (ap (optional net_in)
      (skip (codes "src_addr") (codes "dst_port") fit_port m4 refl ∙ skip (codes "src_addr") (codes "src_port") fit_port m3 refl ∙ skip (codes "src_addr") (codes "dst_addr") fit_net m2 refl
      ∙ get_changed (codes "src_addr") fit_net m1 ∙ ap (option_map fit_net) (skip (codes "src_addr") (codes "protocol") fit_protocol ws refl)))
      (ap (optional port)
      (skip (codes "src_port") (codes "dst_port") fit_port m4 refl ∙ get_changed (codes "src_port") fit_port m3
      ∙ ap (option_map fit_port)
      (skip (codes "src_port") (codes "dst_addr") fit_net m2 refl ∙ skip (codes "src_port") (codes "src_addr") fit_net m1 refl ∙ skip (codes "src_port") (codes "protocol") fit_protocol ws refl)))
      (ap (optional net_in)
      (skip (codes "dst_addr") (codes "dst_port") fit_port m4 refl ∙ skip (codes "dst_addr") (codes "src_port") fit_port m3 refl ∙ get_changed (codes "dst_addr") fit_net m2
      ∙ ap (option_map fit_net) (skip (codes "dst_addr") (codes "src_addr") fit_net m1 refl ∙ skip (codes "dst_addr") (codes "protocol") fit_protocol ws refl)))
      (ap (optional port)
      (get_changed (codes "dst_port") fit_port m4
      ∙ ap (option_map fit_port)
      (skip (codes "dst_port") (codes "src_port") fit_port m3 refl ∙ skip (codes "dst_port") (codes "dst_addr") fit_net m2 refl ∙ skip (codes "dst_port") (codes "src_addr") fit_net m1 refl
      ∙ skip (codes "dst_port") (codes "protocol") fit_protocol ws refl)))

module _ (go : ReferencesGoOn) (s : Lists) (scope : ℕ) where
  abbrev fill : Data → Data
  fill = filled s scope

  found : (k : List ℕ) (ws : Members) → get_member k (filled_members s scope ws) ≡ option_map fill (get_member k ws)
  found k ws = get-filled s scope k (object ws)

  filled_connection : {Net : Type 0} (make : Makes Net) (net_in : Data → Option Net) (ws : Members) → connected_at make net_in (filled_members s scope ws) ≡ connected_by make net_in fill fill fill ws
  filled_connection make net_in ws =
      let ns : Members = filled_members s scope ws in
      same_connected make (are_among connection_parts (names_of ns)) (are_among connection_parts (names_of ws))
      (optional protocol_in (get_member (codes "protocol") ns)) (changed_part protocol_in fill (codes "protocol") ws)
      (optional net_in (get_member (codes "src_addr") ns)) (changed_part net_in fill (codes "src_addr") ws)
      (optional port (get_member (codes "src_port") ns)) (changed_part port fill (codes "src_port") ws)
      (optional net_in (get_member (codes "dst_addr") ns)) (changed_part net_in fill (codes "dst_addr") ws)
      (optional port (get_member (codes "dst_port") ns)) (changed_part port fill (codes "dst_port") ws)
      (ap (are_among connection_parts) (names-filled s scope ws))
      (ap (optional protocol_in) (found (codes "protocol") ws))
      (ap (optional net_in) (found (codes "src_addr") ws))
      (ap (optional port) (found (codes "src_port") ws))
      (ap (optional net_in) (found (codes "dst_addr") ws))
      (ap (optional port) (found (codes "dst_port") ws))

  pub follows : {A : Type 0} (read : Data → Option A) → IsScalar read → (fitting : Data) (x : A) → read fitting ≡ Some x → (o : Option Data) → Follows (optional read (option_map (set_if_open fitting) o)) (optional read (option_map fill o))
  follows read scalar fitting x fits o = record {
    none = none_optional go s scope read scalar fitting x fits o;
    alike = alike_optional read read (set_if_open fitting) fill o;
  }

  module _ {Net : Type 0} (make : Makes Net)
      (has : (a : Option Protocol) (b : Option Net) (c : Option ℕ) (d : Option Net) (e : Option ℕ) → has_part (make a b c d e) ≡ (is_some a || is_some b || is_some c || is_some d || is_some e))
      (net_in : Data → Option Net) (scalar : IsScalar net_in) (net : List ℕ) (x : Net) (fits : net_in (string net) ≡ Some x) (ws : Members) where
    pub none_connection : connected_at make net_in (connection_members net ws) ≡ None → connected_at make net_in (filled_members s scope ws) ≡ None
    none_connection n =
        filled_connection make net_in ws
        ∙ none_connected make has (are_among connection_parts (names_of ws))
        (changed_part protocol_in (set_if_open (string (codes "tcp"))) (codes "protocol") ws) (changed_part protocol_in fill (codes "protocol") ws)
        (changed_part net_in (set_if_open (string net)) (codes "src_addr") ws) (changed_part net_in fill (codes "src_addr") ws)
        (changed_part port (set_if_open (whole_data 0)) (codes "src_port") ws) (changed_part port fill (codes "src_port") ws)
        (changed_part net_in (set_if_open (string net)) (codes "dst_addr") ws) (changed_part net_in fill (codes "dst_addr") ws)
        (changed_part port (set_if_open (whole_data 0)) (codes "dst_port") ws) (changed_part port fill (codes "dst_port") ws)
        (follows protocol_in protocol_scalar (string (codes "tcp")) _ refl (get_member (codes "protocol") ws))
        (follows net_in scalar (string net) x fits (get_member (codes "src_addr") ws))
        (follows port port_scalar (whole_data 0) 0 refl (get_member (codes "src_port") ws))
        (follows net_in scalar (string net) x fits (get_member (codes "dst_addr") ws))
        (follows port port_scalar (whole_data 0) 0 refl (get_member (codes "dst_port") ws))
        (sym (settled_connection make net_in net ws) ∙ n)

    pub same_connection : are_open_at connection_parts (object ws) ≡ false → connected_at make net_in (filled_members s scope ws) ≡ connected_at make net_in (connection_members net ws)
    same_connection o =
        let p1 = both_false _ _ o in
        let p2 = both_false _ _ p1.1 in
        let p3 = both_false _ _ p2.1 in
        let p4 = both_false _ _ p3.1 in
        let p5 = both_false _ _ p4.1 in
        filled_connection make net_in ws
        ∙ same_connected make (are_among connection_parts (names_of ws)) (are_among connection_parts (names_of ws))
        (changed_part protocol_in fill (codes "protocol") ws) (changed_part protocol_in (set_if_open (string (codes "tcp"))) (codes "protocol") ws)
        (changed_part net_in fill (codes "src_addr") ws) (changed_part net_in (set_if_open (string net)) (codes "src_addr") ws)
        (changed_part port fill (codes "src_port") ws) (changed_part port (set_if_open (whole_data 0)) (codes "src_port") ws)
        (changed_part net_in fill (codes "dst_addr") ws) (changed_part net_in (set_if_open (string net)) (codes "dst_addr") ws)
        (changed_part port fill (codes "dst_port") ws) (changed_part port (set_if_open (whole_data 0)) (codes "dst_port") ws)
        refl
        (same_optional go s scope protocol_in protocol_scalar (string (codes "tcp")) _ refl (get_member (codes "protocol") ws) p3.0)
        (same_optional go s scope net_in scalar (string net) x fits (get_member (codes "src_addr") ws) p4.0)
        (same_optional go s scope port port_scalar (whole_data 0) 0 refl (get_member (codes "src_port") ws) p5.0)
        (same_optional go s scope net_in scalar (string net) x fits (get_member (codes "dst_addr") ws) p1.0)
        (same_optional go s scope port port_scalar (whole_data 0) 0 refl (get_member (codes "dst_port") ws) p2.0)
        ∙ sym (settled_connection make net_in net ws)
