-- The image is as synced where it must be.
use Rattle.std.proofs.Common.{◌≡◌, ◌++◌, List, ℕ, length, take, drop, IsTrue, ap, subst, sym, ◌∙◌, arith}
use Rattle.std.proofs.lemmas.Grind.{common_steps}
use Rattle.cacao_site_log.specs.Entries.{calls_of, IsAsSynced}
use Rattle.cacao_site_log.specs.Replay.{at_rest, after_all, is_image}
use Rattle.cacao_site_log.proofs.Tears.{longest-ge, left-from, as_synced-longer}
use Rattle.cacao_site_log.proofs.tear.torn.Goals as goal

pub picked_length-requires : goal.picked_length-requires
picked_length-requires c = omega (arith, longest-ge c.args.file c.as_slice.result.now c.args.bytes.now c.args.entries.now c.requires.no_sync)

pub returns : goal.returns
returns c =
    let image : List ℕ = c.tear_all.new.image in
    let whole : take c.resize.new.self.len (image ++ drop (length image) c.resize.new.self.items) ≡ image = grind (arith, common_steps) in
    let long : length image ≡ c.picked_length.result = omega (arith, c.tear_all.auto.image, c.as_mut_slice.ensures.len, c.in_ok-resize.ensures.len) in
    let filled : IsAsSynced (at_rest c.args.synced.items) c.as_mut_slice.result.now =
    subst (λ (l : List ℕ). IsAsSynced (at_rest c.args.synced.items) l) (sym (c.as_mut_slice.ensures.value ∙ c.in_ok-resize.ensures.items)) (as_synced-longer c.args.synced.items c.picked_length.result _ (omega arith)) in
    let high : c.longest_after-longest.result ≡ (after_all c.args.file (at_rest c.args.synced.items) (calls_of c.args.bytes.now c.args.entries.now)).longest =
    c.longest_after-longest.ensures ∙ ap (λ (l : List ℕ). (after_all c.args.file (at_rest l) (calls_of c.args.bytes.now c.args.entries.now)).longest) c.as_slice.ensures.value in
    subst (λ (l : List ℕ). IsTrue (is_image (after_all c.args.file (at_rest c.args.synced.items) (calls_of c.args.bytes.now c.args.entries.now)) l)) (sym whole)
    (left-from c.args.file c.args.synced.items c.args.bytes.now image c.args.entries.now c.requires.no_sync (c.tear_all.ensures (at_rest c.args.synced.items) filled) (omega (arith, long)) (omega (arith, long)))
