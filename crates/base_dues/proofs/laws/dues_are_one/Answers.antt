use Rattle.base_dues.proofs.PairLemmas.{dues_are_one, IsQueue-rising, at-rising}
use Rattle.base_dues.proofs.laws.dues_are_one.Goals as goal

pub returns-clause-one : goal.returns-clause-one
returns-clause-one c = dues_are_one

pub returns-clause-rising : goal.returns-clause-rising
returns-clause-rising c = λ ps once. (IsQueue-rising ps once, λ n. at-rising ps n once)
