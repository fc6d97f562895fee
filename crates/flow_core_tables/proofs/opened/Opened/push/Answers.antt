use Rattle.std.proofs.Common.{◌≡◌, ◌<◌, ◌++◌, ◌∷◌, [], List, length, sym, subst, arith}
use Rattle.std.specs.Prelude.{vec_len}
use Rattle.cacao_vars.specs.declared.scoping.Scope.{Scope}
use Rattle.flow_core_rules.specs.State.{Texts}
use Rattle.flow_core_tables.specs.declared.opened.Place.{Place}
use Rattle.flow_core_tables.specs.Opened.{AreKept}
use Rattle.flow_core_tables.proofs.OpenedLemmas.{room_left, kept_few, kept_equal, kept_blank, kept_more, scopes_blank, texts_blank, scopes_more, texts_more}
use Rattle.flow_core_tables.proofs.opened.Opened.push.Goals as goal

pub push_reserved-requires : goal.push_reserved-requires
push_reserved-requires c = omega (arith, room_left c.self.inside c.args.self.now c.self.view_is c.self.invariant c.requires.room, c.self.invariant.places_room)

pub invariant_of-self : goal.invariant_of-self
invariant_of-self c =
    let kept = c.self.invariant in
    let room : vec_len c.self.inside.places < c.self.inside.room = room_left c.self.inside c.args.self.now c.self.view_is c.self.invariant c.requires.room in
    record {
      scopes = subst (λ (l : List Place). AreKept 0 l c.self.inside.scopes.items) (sym c.push_reserved.ensures.items)
          (kept_blank 0 c.self.inside.places.items c.self.inside.scopes.items c.in-Some.around kept.scopes);
      texts = subst (λ (l : List Place). AreKept 0 l c.self.inside.texts.items) (sym c.push_reserved.ensures.items)
          (kept_blank 0 c.self.inside.places.items c.self.inside.texts.items c.in-Some.around kept.texts);
      none = kept.none;
      small = kept.small;
      within = omega (arith, room, c.push_reserved.ensures.len);
      places_room = omega (arith, kept.places_room, c.push_reserved.ensures.capacity);
      scopes_room = omega (arith, kept.scopes_room, c.push_reserved.ensures.len);
      texts_room = omega (arith, kept.texts_room, c.push_reserved.ensures.len);
    }

pub returns-in-Some-clause-scopes : goal.returns-in-Some-clause-scopes
returns-in-Some-clause-scopes c =
    scopes_blank c.self.inside c.args.self.now c.self.view_is c.self.invariant c.in-Some.around c.args.scope c.push_reserved.new.self.items c.push_reserved.ensures.items c.in-Some.ensures

pub returns-in-Some-clause-texts : goal.returns-in-Some-clause-texts
returns-in-Some-clause-texts c =
    texts_blank c.self.inside c.args.self.now c.self.view_is c.self.invariant c.in-Some.around c.args.scope c.args.texts c.push_reserved.new.self.items c.push_reserved.ensures.items c.in-Some.ensures c.requires.declared

pub overflow_cast-number : goal.overflow_cast-number
overflow_cast-number c =
    omega (arith, c.len-number.ensures, c.self.inside.scopes.ok.0, c.self.inside.places.ok.0, kept_few 0 c.self.inside.places.items c.self.inside.scopes.items c.self.invariant.scopes, c.self.invariant.within, c.self.invariant.small)

pub push_reserved-requires-in-None : goal.push_reserved-requires-in-None
push_reserved-requires-in-None c = omega (arith, room_left c.self.inside c.args.self.now c.self.view_is c.self.invariant c.requires.room, c.self.invariant.scopes_room)

pub push_reserved-requires-in-None-2 : goal.push_reserved-requires-in-None-2
push_reserved-requires-in-None-2 c = omega (arith, room_left c.self.inside c.args.self.now c.self.view_is c.self.invariant c.requires.room, c.self.invariant.texts_room)

pub push_reserved-requires-in-None-3 : goal.push_reserved-requires-in-None-3
push_reserved-requires-in-None-3 c = omega (arith, room_left c.self.inside c.args.self.now c.self.view_is c.self.invariant c.requires.room, c.self.invariant.places_room)

-- the number is that of the next scope, and of the next texts
pub invariant_of-self-in-None : goal.invariant_of-self-in-None
invariant_of-self-in-None c =
    let kept = c.self.invariant in
    let ps : List Place = c.self.inside.places.items in
    let ss : List Scope = c.self.inside.scopes.items in
    let ts : List Texts = c.self.inside.texts.items in
    let number : c.len-number.result ≡ length ss = omega (arith, c.len-number.ensures, c.self.inside.scopes.ok.0) in
    let room : vec_len c.self.inside.places < c.self.inside.room = room_left c.self.inside c.args.self.now c.self.view_is c.self.invariant c.requires.room in
    record {
      scopes = subst (λ (l : List Scope). AreKept 0 c.push_reserved-in-None-3.new.self.items l) (sym c.push_reserved-in-None.ensures.items)
          (subst (λ (l : List Place). AreKept 0 l (ss ++ c.args.scope ∷ [])) (sym c.push_reserved-in-None-3.ensures.items) (kept_more 0 ps ss c.len-number.result c.args.scope kept.scopes (omega (arith, number))));
      texts = subst (λ (l : List Texts). AreKept 0 c.push_reserved-in-None-3.new.self.items l) (sym c.push_reserved-in-None-2.ensures.items)
          (subst (λ (l : List Place). AreKept 0 l (ts ++ c.args.texts ∷ [])) (sym c.push_reserved-in-None-3.ensures.items)
          (kept_more 0 ps ts c.len-number.result c.args.texts kept.texts (omega (arith, number, kept_equal 0 ps ss ts kept.scopes kept.texts))));
      none = kept.none;
      small = kept.small;
      within = omega (arith, room, c.push_reserved-in-None-3.ensures.len);
      places_room = omega (arith, kept.places_room, c.push_reserved-in-None-3.ensures.capacity);
      scopes_room = omega (arith, kept.scopes_room, c.push_reserved-in-None.ensures.len, c.push_reserved-in-None.ensures.capacity, c.push_reserved-in-None-3.ensures.len);
      texts_room = omega (arith, kept.texts_room, c.push_reserved-in-None-2.ensures.len, c.push_reserved-in-None-2.ensures.capacity, c.push_reserved-in-None-3.ensures.len);
    }

pub returns-in-None-clause-scopes : goal.returns-in-None-clause-scopes
returns-in-None-clause-scopes c =
    scopes_more c.self.inside c.args.self.now c.self.view_is c.self.invariant c.len-number.result c.args.scope c.push_reserved-in-None-3.new.self.items c.push_reserved-in-None.new.self.items c.push_reserved-in-None-3.ensures.items c.push_reserved-in-None.ensures.items

pub returns-in-None-clause-texts : goal.returns-in-None-clause-texts
returns-in-None-clause-texts c =
    texts_more c.self.inside c.args.self.now c.self.view_is c.self.invariant c.len-number.result c.args.texts c.push_reserved-in-None-3.new.self.items c.push_reserved-in-None-2.new.self.items c.push_reserved-in-None-3.ensures.items c.push_reserved-in-None-2.ensures.items
