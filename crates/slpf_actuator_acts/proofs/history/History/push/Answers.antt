use Rattle.std.proofs.Common.{◌≡◌, ℕ, ◌<◌, cond, ◌==◌, ◌&&◌, List, [], ◌∷◌, ◌++◌, length, Some, sym, subst, ap, ap₂, ◌∙◌}
use Rattle.run_records.specs.declared.act.Act.{Act}
use Rattle.slpf_rules.specs.Replies.{reply_to}
use Rattle.slpf_actuator_acts.specs.ActLists.{IsHistory, MayFollow}
use Rattle.slpf_rules_acts.specs.Index.{place_in}
use Rattle.slpf_actuator_acts.specs.History.{KeepsHistory}
use Rattle.slpf_actuator_acts.proofs.ActLemmas.{history_push, table_push}
use Rattle.slpf_actuator_acts.proofs.Places.{index_back, index_push}
use Rattle.slpf_actuator_acts.proofs.history.History.push.Goals as goal

pub invariant_of-self-in-Ok : goal.invariant_of-self-in-Ok
invariant_of-self-in-Ok c =
    let acts = c.self.inside.acts.items in
    let act = c.args.act in
    let was : c.reserve.new.self.items ≡ acts = c.reserve.ensures.items in
    let size : length c.as_slice-place.result.now ≡ length acts = ap length c.as_slice-place.ensures.value ∙ ap length was in
    let follows : MayFollow acts act = subst (λ (l : List Act). MayFollow l act) (sym c.self.view_is) c.requires.follows in
    let few : length acts < 4_294_967_295 = subst (λ (l : List Act). length l < 4_294_967_295) (sym c.self.view_is) c.requires.few in
    let now : c.push_in_room.new.acts.items ≡ acts ++ act ∷ [] = c.push_in_room.ensures ∙ ap (λ (l : List Act). l ++ act ∷ []) was in
    subst (λ (l : List Act). KeepsHistory l c.insert.new.self c.enact.new.table) (sym now) (record {
      history = history_push acts act c.self.invariant.history follows c.requires.in_range few;
      indexed = index_push acts act c.self.inside.index c.insert.new.self follows.is_new c.self.invariant.indexed
          (λ r i. c.in_ok-insert.ensures.ok r i ∙ ap (λ (n : ℕ). cond (act.run == r && act.issue == i) (Some n) (place_in c.self.inside.index r i)) size);
      tabled = c.in-Ok.ensures.ok ∙ ap₂ (λ rules asked. (reply_to rules act.moment asked).1) c.self.invariant.tabled c.requires.asked ∙ sym (table_push acts act);
    })

pub invariant_of-self-in-Err-1 : goal.invariant_of-self-in-Err-1
invariant_of-self-in-Err-1 c =
    let acts = c.self.inside.acts.items in
    let act = c.args.act in
    let was : c.reserve.new.self.items ≡ acts = c.reserve.ensures.items in
    let size : length c.as_slice-place.result.now ≡ length acts = ap length c.as_slice-place.ensures.value ∙ ap length was in
    let follows : MayFollow acts act = subst (λ (l : List Act). MayFollow l act) (sym c.self.view_is) c.requires.follows in
    subst (λ (l : List Act). KeepsHistory l c.remove.new.self c.enact.new.table) (sym was) (record {
      history = c.self.invariant.history;
      indexed = index_back acts act c.self.inside.index c.insert.new.self c.remove.new.self follows.is_new c.self.invariant.indexed
          (λ r i. c.in_ok-insert.ensures.ok r i ∙ ap (λ (n : ℕ). cond (act.run == r && act.issue == i) (Some n) (place_in c.self.inside.index r i)) size)
          c.remove.ensures;
      tabled = c.in-Err.ensures.err ∙ c.self.invariant.tabled;
    })

pub returns-in-Ok-clause-history : goal.returns-in-Ok-clause-history
returns-in-Ok-clause-history c =
    let acts = c.self.inside.acts.items in
    let act = c.args.act in
    let follows : MayFollow acts act = subst (λ (l : List Act). MayFollow l act) (sym c.self.view_is) c.requires.follows in
    let few : length acts < 4_294_967_295 = subst (λ (l : List Act). length l < 4_294_967_295) (sym c.self.view_is) c.requires.few in
    let now : c.push_in_room.new.acts.items ≡ acts ++ act ∷ [] = c.push_in_room.ensures ∙ ap (λ (l : List Act). l ++ act ∷ []) c.reserve.ensures.items in
    subst IsHistory (sym now) (history_push acts act c.self.invariant.history follows c.requires.in_range few)
