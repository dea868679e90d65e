use Rattle.smc_query.proofs.ExampleLaws.{counts-regions, pairs-from-the-left, pairs-in-parentheses, binds-and-closer, keeps-its-words, counts-whole-rows, nests-twice}
use Rattle.smc_query.proofs.laws.worked_texts.Goals as goal

pub returns : goal.returns
returns c = record {
  counts_regions = counts-regions;
  pairs_from_the_left = pairs-from-the-left;
  pairs_in_parentheses = pairs-in-parentheses;
  binds_and_closer = binds-and-closer;
  keeps_its_words = keeps-its-words;
  counts_whole_rows = counts-whole-rows;
  nests_twice = nests-twice;
}
