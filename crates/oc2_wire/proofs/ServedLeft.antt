-- What each end of a call of the filters' end leaves as it was.
use Rattle.std.proofs.Common.{◌≡◌, inl, inr, ℕ, List, ◌++◌, ◌∙◌, ap}
use Rattle.std.specs.Prelude.{Option, Result, Ok, Err}
use Rattle.cacao_site.specs.LinkCalls.{Keeps}
use Rattle.cacao_site.specs.View.{LinkView, SiteView}
use Rattle.cacao_site.specs.declared.parcel.Parcel.{Parcel}
use Rattle.run_records.specs.declared.act.Act.{Act}
use Rattle.flow_core.specs.declared.flow_errors.LimitKind.TheVariants as limit
use Rattle.slpf_actuator.specs.ActuatorView.{ActuatorView}
use Rattle.flow_world_parts.specs.Openings.{RefusesFilters}
use Rattle.flow_world_parts.specs.declared.error.WorldError.{WorldError}
use Rattle.oc2_wire_site.specs.Wires.{WireView}
use Rattle.oc2_wire.specs.Answering.{Served, Serves}
use Rattle.oc2_wire.specs.declared.error.WireError.{WireError}
use Rattle.oc2_wire.specs.declared.error.WireError.TheVariants as error
use Rattle.oc2_wire.proofs.Served.{keeps_same}

-- the same disk, and what was taken and put before
pub record Left (old new : WireView) : Type 0 where
  pub label : new.site.disk.label ≡ old.site.disk.label
  pub took : Keeps old.site.link.taken new.site.link.taken
  pub put : Keeps old.site.link.puts new.site.link.puts

module _ (old new : WireView) where
  by_serving : (opened : SiteView) (filters : List ActuatorView) (acted : List (ℕ × Act)) (repeats : ℕ) (at_hand : List (ℕ × Parcel)) (unsure : Option (ℕ × Act))
      → Serves old opened new filters acted repeats at_hand unsure → Left old new
  by_serving opened filters acted repeats at_hand unsure s = record { label = s.goes_on.label; took = (s.handled ++ at_hand, s.takes); put = (s.put, s.puts) }

  by_opening : (why : WorldError) → RefusesFilters why old.site new.site → Left old new
  by_opening why r =
      let link : new.site.link ≡ old.site.link = r.refuses.opens.only.rest.link ∙ r.before.rest.link in
      record {
        label = r.refuses.opens.only.each.goes_on.label ∙ r.before.goes_on.label;
        took = keeps_same old.site.link.taken new.site.link.taken (ap (λ (l : LinkView). l.taken) link);
        put = keeps_same old.site.link.puts new.site.link.puts (ap (λ (l : LinkView). l.puts) link);
      }

  pub served_left : (r : Result ℕ WireError) → Served r old new → Left old new
  served_left (Ok n) s = by_serving _ _ _ _ _ _ s.0.all.serves
  served_left (Err error.Flooded) s = by_serving _ _ _ _ _ _ s.serves
  served_left (Err error.TooLong) s = by_serving _ _ _ _ _ _ s.all.serves
  served_left (Err error.Link) s = by_serving _ _ _ _ _ _ s.all.serves
  served_left (Err error.Disk) s = elim s [
    | inl first ↦ by_opening _ first.refuses
    | inr last ↦ by_serving _ _ _ _ _ _ last.refuses.serves
  ]
  served_left (Err (error.Damaged file place)) s = by_opening _ s.refuses
  served_left (Err (error.Limit limit.Moment)) s = by_serving _ _ _ _ _ _ s.refuses.serves
  served_left (Err (error.Limit limit.Journal)) s = by_serving _ _ _ _ _ _ s.refuses.serves
  served_left (Err (error.Limit limit.Tasks)) s = absurd s
  served_left (Err (error.Limit limit.Command)) s = absurd s
  served_left (Err error.Memory) s = elim s [
    | inl first ↦ by_opening _ first.refuses
    | inr later ↦ elim later [
      | inl wants ↦ by_serving _ _ _ _ _ _ wants.all.serves
      | inr last ↦ by_serving _ _ _ _ _ _ last.refuses.serves
    ]
  ]
  served_left (Err (error.OtherRun held asked)) s = absurd s
  served_left (Err (error.OtherBook index)) s = absurd s
  served_left (Err error.Say) s = absurd s
