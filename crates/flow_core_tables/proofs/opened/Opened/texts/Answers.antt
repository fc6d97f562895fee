use Rattle.std.proofs.Common.{sym, arith}
use Rattle.flow_core_tables.proofs.OpenedLemmas.{got_place, got_none, number_within, texts_kept, texts_inside, texts_past}
use Rattle.flow_core_tables.proofs.opened.Opened.texts.Goals as goal

pub index-requires : goal.index-requires
index-requires c =
    let places = c.self.inside.places.items in
    let read = got_place places c.deref.result.now c.args.scope c.in-Some.place.now c.deref.ensures.value c.in-Some.ensures.lookup.3.0 c.in-Some.ensures.lookup.1 in
    omega (arith, (number_within c.self.inside c.args.self.now c.self.view_is c.self.invariant c.args.scope c.in-Keeps.number c.in-Some.place.now read c.in-Keeps.is).1, c.self.inside.texts.ok.0)

pub returns-in-Keeps : goal.returns-in-Keeps
returns-in-Keeps c =
    let places = c.self.inside.places.items in
    let read = got_place places c.deref.result.now c.args.scope c.in-Some.place.now c.deref.ensures.value c.in-Some.ensures.lookup.3.0 c.in-Some.ensures.lookup.1 in
    sym (texts_kept c.self.inside c.args.self.now c.self.view_is c.self.invariant c.args.scope c.in-Keeps.number c.in-Some.place.now c.index.result.now read c.in-Keeps.is c.index.ensures)

pub returns-in-Inside : goal.returns-in-Inside
returns-in-Inside c =
    let places = c.self.inside.places.items in
    let read = got_place places c.deref.result.now c.args.scope c.in-Some.place.now c.deref.ensures.value c.in-Some.ensures.lookup.3.0 c.in-Some.ensures.lookup.1 in
    sym (texts_inside c.self.inside c.args.self.now c.self.view_is c.self.invariant c.args.scope c.in-Inside.field-0 c.in-Some.place.now read c.in-Inside.is)

pub returns-in-None : goal.returns-in-None
returns-in-None c =
    let read = got_none c.self.inside.places.items c.deref.result.now c.args.scope c.deref.ensures.value c.in-None.ensures.lookup.3 in
    sym (texts_past c.self.inside c.args.self.now c.self.view_is c.self.invariant c.args.scope read)
