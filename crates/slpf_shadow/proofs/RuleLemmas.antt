-- A rule shadows another exactly where the test says so.
use Rattle.std.proofs.Common.{◌≡◌, ℕ, ◌-◌, ◌^◌, ◌<◌, ◌≤◌, Bool, true, false, ◌||◌, Option, Some, None, refl, sym, ◌∙◌, inl, inr, arith}
use Rattle.std.proofs.lemmas.Bool.{ltb-true, lt-ltb, le-ltb, leb-true, leb-false, le-leb, and_parts, and_from, or_cases, or_left, or_right, false≢true, true_from_ne_false}
use Rattle.oc2_msg.specs.declared.directions.Direction.{Direction}
use Rattle.oc2_msg.specs.declared.directions.Direction.TheVariants.{Both, Ingress, Egress}
use Rattle.oc2_nets.specs.declared.packets.Packet.{Packet}
use Rattle.oc2_nets.specs.Flows.{covers}
use Rattle.slpf_rules.specs.declared.rules.Rule.{Rule}
use Rattle.slpf_rules.specs.Verdicts.{has_direction, is_before_stop, decides}
use Rattle.slpf_shadow.specs.Packets.{IsPacket}
use Rattle.slpf_shadow.specs.Shadows.{Shadows}
use Rattle.slpf_shadow.specs.Shapes.{flow_within}
use Rattle.slpf_shadow.specs.Ranges.{IsMoment, IsRule}
use Rattle.slpf_shadow.specs.Tests.{is_over, never_decides, stop_within, direction_within, rule_within, shadows}
use Rattle.slpf_shadow.proofs.Escapes.{Escapes}
use Rattle.slpf_shadow.proofs.FlowLemmas.{flow_within-sound, flow_escapes, covers_some, covers_none, turned, covers-turned, turned_is_packet}

-- ---- the parts of a decision

pub record Decided (packet : Packet) (moment : ℕ) (rule : Rule) : Type 0 where
  pub started : rule.start ≤ moment
  pub goes_on : is_before_stop moment rule.stop ≡ true
  pub direction : has_direction rule.direction packet.outward ≡ true
  pub covered : covers rule.flow packet ≡ true

decided : (packet : Packet) (moment : ℕ) (rule : Rule) → decides packet moment rule ≡ true → Decided packet moment rule
decided packet moment rule h =
    let c = and_parts _ _ h in
    let d = and_parts _ _ c.0 in
    let f = and_parts _ _ d.0 in
    record { started = leb-true rule.start moment f.0; goes_on = f.1; direction = d.1; covered = c.1 }

decides_all : (packet : Packet) (moment : ℕ) (rule : Rule) → Decided packet moment rule → decides packet moment rule ≡ true
decides_all packet moment rule h =
    and_from _ _ (and_from _ _ (and_from _ _ (le-leb rule.start moment h.started) h.goes_on) h.direction) h.covered

-- ---- moments and directions

stop_before : (moment : ℕ) (inner outer : Option ℕ) → stop_within inner outer ≡ true → is_before_stop moment inner ≡ true → is_before_stop moment outer ≡ true
stop_before moment inner None h w = refl
stop_before moment None (Some outer) h w = cc
stop_before moment (Some inner) (Some outer) h w =
    let within : inner ≤ outer = leb-true inner outer h in
    let before : moment < inner = ltb-true moment inner w in
    lt-ltb moment outer (omega arith)

over : (start moment : ℕ) (stop : Option ℕ) → is_over start stop ≡ true → start ≤ moment → is_before_stop moment stop ≡ true → false ≡ true
over start moment None h started w = h
over start moment (Some stop) h started w =
    let ends : stop ≤ start = leb-true stop start h in
    let before : moment < stop = ltb-true moment stop w in
    absurd (omega arith)

direction_of : (outward : Bool) (inner outer : Direction) → direction_within inner outer ≡ true → has_direction inner outward ≡ true → has_direction outer outward ≡ true
direction_of outward inner Both h w = refl
direction_of outward Ingress Ingress h w = w
direction_of outward Egress Egress h w = w
direction_of outward Both Ingress h w = cc
direction_of outward Both Egress h w = cc
direction_of outward Ingress Egress h w = cc
direction_of outward Egress Ingress h w = cc

-- ---- where the test says so, the rule shadows

within_decides : (inner outer : Rule) (packet : Packet) (moment : ℕ) → IsPacket packet → rule_within inner outer ≡ true → Decided packet moment inner → decides packet moment outer ≡ true
within_decides inner outer packet moment real h d =
    let f = and_parts _ _ h in
    let w = and_parts _ _ f.0 in
    let m = and_parts _ _ w.0 in
    let starts : outer.start ≤ inner.start = leb-true outer.start inner.start m.0 in
    decides_all packet moment outer (record {
      started = omega (arith, starts, d.started);
      goes_on = stop_before moment inner.stop outer.stop m.1 d.goes_on;
      direction = direction_of packet.outward inner.direction outer.direction w.1 d.direction;
      covered = flow_within-sound inner.flow outer.flow f.1 packet real d.covered;
    })

never : (rule : Rule) (packet : Packet) (moment : ℕ) → IsPacket packet → never_decides rule ≡ true → Decided packet moment rule → false ≡ true
never rule packet moment real h d =
    elim (or_cases _ _ h) [
      | inl late ↦ over rule.start moment rule.stop late d.started d.goes_on
      | inr empty ↦ covers_none rule.flow packet real empty d.covered
    ]

pub shadows-sound : (earlier later : Rule) → shadows earlier later ≡ true → Shadows earlier later
shadows-sound earlier later h =
    let parts = and_parts _ _ h in
    record {
      before = ltb-true earlier.number later.number parts.0;
      always = λ packet moment real fits decides_later.
          let d = decided packet moment later decides_later in
          elim (or_cases _ _ parts.1) [
            | inl none ↦ absurd (false≢true (never later packet moment real none d))
            | inr within ↦ within_decides later earlier packet moment real within d
          ];
    }

-- ---- where it does not, a packet and a moment show it

-- a packet and a moment that a rule decides
record Instance (rule : Rule) : Type 0 where
  packet : Packet
  real : IsPacket packet
  moment : ℕ
  fits : moment < 2 ^ 64
  decided_by : Decided packet moment rule

-- a direction that a rule has
abbrev some_direction : Direction → Bool
some_direction Both = true
some_direction Ingress = false
some_direction Egress = true

has_some : (d : Direction) → has_direction d (some_direction d) ≡ true
has_some Both = refl
has_some Ingress = refl
has_some Egress = refl

first_moment : (start : ℕ) (stop : Option ℕ) → is_over start stop ≡ false → is_before_stop start stop ≡ true
first_moment start None h = refl
first_moment start (Some stop) h = lt-ltb start stop (leb-false stop start h)

instance_of : (rule : Rule) (outward : Bool) (moment : ℕ) (test : Packet → Bool) → Escapes (covers rule.flow) test → has_direction rule.direction outward ≡ true → moment < 2 ^ 64 → rule.start ≤ moment → is_before_stop moment rule.stop ≡ true → Instance rule
instance_of rule outward moment test e direction fits started goes_on = record {
  packet = turned outward e.packet;
  real = turned_is_packet outward e.packet e.real;
  moment = moment;
  fits = fits;
  decided_by = record { started = started; goes_on = goes_on; direction = direction; covered = covers-turned rule.flow outward e.packet ∙ e.inside };
}

-- what the earlier rule then does with it
applied : (earlier later : Rule) → Shadows earlier later → (i : Instance later) → Decided i.packet i.moment earlier
applied earlier later s i = decided i.packet i.moment earlier (s.always i.packet i.moment i.real i.fits (decides_all i.packet i.moment later i.decided_by))

-- a moment before the inner stop and not before the outer one
record Later (start : ℕ) (inner outer : Option ℕ) : Type 0 where
  moment : ℕ
  fits : moment < 2 ^ 64
  started : start ≤ moment
  goes_on : is_before_stop moment inner ≡ true
  stopped : is_before_stop moment outer ≡ false

later_moment : (start : ℕ) (inner outer : Option ℕ) → start < 2 ^ 64 → IsMoment inner → IsMoment outer → is_over start inner ≡ false → stop_within inner outer ≡ false → Later start inner outer
later_moment start inner None fits f g full h = cc
later_moment start None (Some outer) fits f g full h = record {
  moment = 18_446_744_073_709_551_615;
  fits = omega arith;
  started = omega arith;
  goes_on = refl;
  stopped = le-ltb 18_446_744_073_709_551_615 outer (omega arith);
}
later_moment start (Some inner) (Some outer) fits f g full h =
    let begins : start < inner = leb-false inner start full in
    let longer : outer < inner = leb-false inner outer h in
    record {
      moment = inner - 1;
      fits = omega arith;
      started = omega arith;
      goes_on = lt-ltb (inner - 1) inner (omega arith);
      stopped = le-ltb (inner - 1) outer (omega arith);
    }

-- a direction that the inner rule has and the outer one has not
record Turned (inner outer : Direction) : Type 0 where
  outward : Bool
  inside : has_direction inner outward ≡ true
  outside : has_direction outer outward ≡ false

turned_away : (inner outer : Direction) → direction_within inner outer ≡ false → Turned inner outer
turned_away inner Both h = cc
turned_away Ingress Ingress h = cc
turned_away Egress Egress h = cc
turned_away Both Ingress h = record { outward = true; inside = refl; outside = refl }
turned_away Both Egress h = record { outward = false; inside = refl; outside = refl }
turned_away Ingress Egress h = record { outward = false; inside = refl; outside = refl }
turned_away Egress Ingress h = record { outward = true; inside = refl; outside = refl }

-- what is known of a rule that decides somewhere
record Sometimes (rule : Rule) : Type 0 where
  range : IsRule rule
  not_over : is_over rule.start rule.stop ≡ false
  some : Escapes (covers rule.flow) (λ packet. false)

starts_earlier : (earlier later : Rule) → Sometimes later → Shadows earlier later → earlier.start ≤ later.start
unfolding instance_of
starts_earlier earlier later k s =
    let i = instance_of later (some_direction later.direction) later.start (λ packet. false) k.some (has_some later.direction) k.range.start (omega arith) (first_moment later.start later.stop k.not_over) in
    (applied earlier later s i).started

stops_later : (earlier later : Rule) → Sometimes later → IsMoment earlier.stop → Shadows earlier later → stop_within later.stop earlier.stop ≡ false → false ≡ true
unfolding instance_of
stops_later earlier later k fits s h =
    let m = later_moment later.start later.stop earlier.stop k.range.start k.range.stop fits k.not_over h in
    let i = instance_of later (some_direction later.direction) m.moment (λ packet. false) k.some (has_some later.direction) m.fits m.started m.goes_on in
    sym m.stopped ∙ (applied earlier later s i).goes_on

turns_with : (earlier later : Rule) → Sometimes later → Shadows earlier later → direction_within later.direction earlier.direction ≡ false → false ≡ true
unfolding instance_of
turns_with earlier later k s h =
    let t = turned_away later.direction earlier.direction h in
    let i = instance_of later t.outward later.start (λ packet. false) k.some t.inside k.range.start (omega arith) (first_moment later.start later.stop k.not_over) in
    sym t.outside ∙ (applied earlier later s i).direction

covers_too : (earlier later : Rule) → Sometimes later → Shadows earlier later → flow_within later.flow earlier.flow ≡ false → false ≡ true
unfolding instance_of
covers_too earlier later k s h =
    let e = flow_escapes later.flow earlier.flow k.range.flow h in
    let outward = some_direction later.direction in
    let i = instance_of later outward later.start (covers earlier.flow) e (has_some later.direction) k.range.start (omega arith) (first_moment later.start later.stop k.not_over) in
    sym (covers-turned earlier.flow outward e.packet ∙ e.outside) ∙ (applied earlier later s i).covered

rule_within-complete : (earlier later : Rule) → Sometimes later → IsMoment earlier.stop → Shadows earlier later → rule_within later earlier ≡ true
rule_within-complete earlier later k fits s =
    and_from _ _
    (and_from _ _
    (and_from _ _ (le-leb earlier.start later.start (starts_earlier earlier later k s))
    (true_from_ne_false _ (λ h. absurd (false≢true (stops_later earlier later k fits s h)))))
    (true_from_ne_false _ (λ h. absurd (false≢true (turns_with earlier later k s h)))))
    (true_from_ne_false _ (λ h. absurd (false≢true (covers_too earlier later k s h))))

or_neither : (a b : Bool) → (a || b) ≡ false → (a ≡ false) × (b ≡ false)
or_neither true b h = cc
or_neither false b h = (refl, h)

never_or_within : (earlier later : Rule) → IsRule later → IsMoment earlier.stop → Shadows earlier later → (b : Bool) → never_decides later ≡ b → (never_decides later || rule_within later earlier) ≡ true
never_or_within earlier later range fits s true is = or_left _ _ is
never_or_within earlier later range fits s false is =
    let parts = or_neither _ _ is in
    let k : Sometimes later = record { range = range; not_over = parts.0; some = covers_some later.flow range.flow parts.1 } in
    or_right _ _ (rule_within-complete earlier later k fits s)

pub shadows-complete : (earlier later : Rule) → IsRule later → IsMoment earlier.stop → Shadows earlier later → shadows earlier later ≡ true
shadows-complete earlier later range fits s =
    and_from _ _ (lt-ltb earlier.number later.number s.before) (never_or_within earlier later range fits s (never_decides later) refl)
