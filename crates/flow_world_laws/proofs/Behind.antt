-- What the images of file 0 stand for, wherever a session is: the engine's records, and maybe one that was offered as the disk failed.
use Rattle.std.proofs.Common.{◌≡◌, inl, inr, ℕ, List, [], ◌∷◌, ◌++◌, IsTrue, refl, sym, subst, ap, arith}
use Rattle.std.specs.Prelude.{All, Option, Some, None}
use Rattle.std.specs.List.{AllByRecursion}
use Rattle.std.proofs.lemmas.List.{append-nil}
use Rattle.std.proofs.lemmas.List.Elements.{All-cons, All-nil}
use Rattle.cacao_site.specs.DiskCalls.{IsLeft}
use Rattle.run_records.specs.Ranges.{InRange}
use Rattle.run_records.specs.declared.record.Record.{Record}
use Rattle.flow_core_rules.specs.Givens.{Given}
use Rattle.flow_engine_answers.specs.declared.answers.OperatorAnswer.{OperatorAnswer}
use Rattle.flow_engine_history.specs.HistoryView.{HoldsRecords}
use Rattle.flow_laws.specs.Images.{IsRecords}
use Rattle.flow_laws.proofs.OneList.{records_of_layout}
use Rattle.flow_world_steps.specs.Sides.{HoldsWithUnsure}
use Rattle.flow_world_steps.specs.Steps.{Steps}
use Rattle.flow_world_steps.specs.Sums.{IsBetween}
use Rattle.flow_world_steps.specs.Unsure.{UnsureByStep}
use Rattle.flow_world_steps.specs.Whole.{AddsUp, IsOpened}
use Rattle.flow_world_steps.specs.Worlds.{Notes, World}
use Rattle.flow_world_steps.proofs.Unsure.{steps_unsure}
use Rattle.flow_world_steps.proofs.Whole.{steps_add_up}

-- the image stands for the engine's records, and for what may stand behind them, of moments in between
pub record StandsBehind (a b : World) (image : List ℕ) : Type 0 where
  pub more : List Record
  pub are : IsRecords image (b.engine.history.records ++ more)
  pub moments : All (IsBetween a.site.clock.now b.site.clock.now) more

all_more : (xs : List Record) (x : Record) → AllByRecursion InRange xs → InRange x → AllByRecursion InRange (xs ++ x ∷ [])
all_more [] x all is = (is, tt)
all_more (y ∷ xs) x all is = (all.0, all_more xs x all.1 is)

module _ (given : Given) (run most : ℕ) (answers : List OperatorAnswer) (a b : World) (begins : IsOpened a given run most answers) (steps : Steps a b) where
  pub sums : AddsUp a b most
  sums = steps_add_up a b given run most answers begins steps

  ranges : AllByRecursion InRange b.engine.history.records
  ranges = sums.journal.engine.history.ranges

  offered : (r : Record) → b.notes.unsure ≡ Some r → UnsureByStep a b r
  offered r unsure = steps_unsure a b r (ap (λ (n : Notes). n.unsure) begins.notes) steps unsure

  sure : (image : List ℕ) → HoldsRecords b.engine.history.records image → StandsBehind a b image
  sure image is = record {
    more = [];
    are = subst (λ (l : List Record). IsRecords image l) (sym (append-nil b.engine.history.records)) (records_of_layout image b.engine.history.records ranges is);
    moments = All-nil (IsBetween a.site.clock.now b.site.clock.now);
  }

  further : (image : List ℕ) (r : Record) → b.notes.unsure ≡ Some r → HoldsRecords (b.engine.history.records ++ r ∷ []) image → StandsBehind a b image
  further image r unsure is =
      let by = offered r unsure in
      let at = by.moment in
      let in_range : InRange r = subst (λ (x : Record). InRange x) by.offers.comes.is by.offers.in_range in
      record {
        more = r ∷ [];
        are = records_of_layout image (b.engine.history.records ++ r ∷ []) (all_more b.engine.history.records r ranges in_range) is;
        moments = All-cons (IsBetween a.site.clock.now b.site.clock.now) r [] (omega (arith, at, by.later), omega (arith, at, by.up_to)) (All-nil (IsBetween a.site.clock.now b.site.clock.now));
      }

  stands_by : (image : List ℕ) (o : Option Record) → b.notes.unsure ≡ o → HoldsWithUnsure b.engine.history.records o image → StandsBehind a b image
  stands_by image None e is = sure image is
  stands_by image (Some r) e (inl is) = sure image is
  stands_by image (Some r) e (inr is) = further image r e is

  pub stands_behind : IsTrue b.site.disk.told → (image : List ℕ) → IsLeft b.site.disk 0 b.site.disk.beat image → StandsBehind a b image
  stands_behind told image left = stands_by image b.notes.unsure refl (sums.journal.holds told image left)
