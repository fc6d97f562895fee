use Rattle.cacao_cond.proofs.PartLemmas.{parts_are_lists, primes_are_lists, constants_are_lists, says_by_parts}
use Rattle.cacao_cond.proofs.laws.conditions_are_lists.Goals as goal

pub returns : goal.returns
returns c = record {
  parts = parts_are_lists;
  primes = primes_are_lists;
  constants = constants_are_lists;
  says = says_by_parts;
}
