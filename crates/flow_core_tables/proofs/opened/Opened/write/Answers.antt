use Rattle.std.proofs.Common.{◌<◌, ◌∙◌, length, ap, sym, arith, length-set}
use Rattle.std.specs.Prelude.{slice_set}
use Rattle.flow_core_rules.specs.State.{Texts}
use Rattle.flow_core_rules.specs.Edits.{with_text}
use Rattle.flow_core_tables.proofs.TableLemmas.{changed_is_set, read_there}
use Rattle.flow_core_tables.proofs.OpenedLemmas.{texts_count_is, number_within, texts_written, texts_left, kept_same}
use Rattle.flow_core_tables.proofs.opened.Opened.write.Goals as goal

pub index-requires : goal.index-requires
index-requires c = omega (arith, c.requires, texts_count_is c.self.inside c.args.self.now c.self.view_is c.self.invariant)

pub index_mut-requires : goal.index_mut-requires
index_mut-requires c =
    let there : c.args.scope < length c.self.inside.places.items = omega (arith, c.requires, texts_count_is c.self.inside c.args.self.now c.self.view_is c.self.invariant, c.self.inside.places.ok.0) in
    let read = sym (read_there c.self.inside.places.items c.args.scope c.index.result.now there c.index.ensures) in
    omega (arith, (number_within c.self.inside c.args.self.now c.self.view_is c.self.invariant c.args.scope c.in-Keeps.number c.index.result.now read c.in-Keeps.is).1, c.self.inside.texts.ok.0)

pub invariant_of-self : goal.invariant_of-self
invariant_of-self c =
    let kept = c.self.invariant in
    record {
      scopes = kept.scopes;
      texts = kept_same 0 c.self.inside.places.items c.self.inside.texts.items _ kept.texts (length-set c.self.inside.texts.items c.in-Keeps.number c.write.new.self);
      none = kept.none;
      small = kept.small;
      within = kept.within;
      places_room = kept.places_room;
      scopes_room = kept.scopes_room;
      texts_room = kept.texts_room;
    }

pub returns-in-Keeps-clause-texts : goal.returns-in-Keeps-clause-texts
returns-in-Keeps-clause-texts c =
    let there : c.args.scope < length c.self.inside.places.items = omega (arith, c.requires, texts_count_is c.self.inside c.args.self.now c.self.view_is c.self.invariant, c.self.inside.places.ok.0) in
    let read = sym (read_there c.self.inside.places.items c.args.scope c.index.result.now there c.index.ensures) in
    let within = (number_within c.self.inside c.args.self.now c.self.view_is c.self.invariant c.args.scope c.in-Keeps.number c.index.result.now read c.in-Keeps.is).1 in
    let new : Texts → Texts = with_text c.args.name.now c.args.worth in
    texts_written c.self.inside c.args.self.now c.self.view_is c.self.invariant c.args.scope c.in-Keeps.number c.index.result.now c.args.name.now c.args.worth c.index_mut.result.now _ read c.in-Keeps.is c.index_mut.ensures.value
    (ap (λ (t : Texts). slice_set c.self.inside.texts.items c.in-Keeps.number t) c.write.ensures
    ∙ changed_is_set new c.self.inside.texts.items c.in-Keeps.number c.index_mut.result.now within c.index_mut.ensures.value)

pub returns-in-Inside-clause-texts : goal.returns-in-Inside-clause-texts
returns-in-Inside-clause-texts c =
    let there : c.args.scope < length c.self.inside.places.items = omega (arith, c.requires, texts_count_is c.self.inside c.args.self.now c.self.view_is c.self.invariant, c.self.inside.places.ok.0) in
    let read = sym (read_there c.self.inside.places.items c.args.scope c.index.result.now there c.index.ensures) in
    texts_left c.self.inside c.args.self.now c.self.view_is c.self.invariant c.args.scope c.in-Inside.field-0 c.index.result.now c.args.name.now c.args.worth read c.in-Inside.is
