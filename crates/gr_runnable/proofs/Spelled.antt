-- What a text spells, where it is accepted, can be run.
use Rattle.gr_fits.specs.Laws.{NamedProgramsHaveOneHeap}
use Rattle.gr_fits_numbers.specs.Laws.{SpelledNumbersFit}
use Rattle.gr_fits_words_heap.specs.Laws.{AcceptedLiteralsFit}
use Rattle.gr_spelled_names.specs.Laws.{SpelledObjectsHaveNames}
use Rattle.gr_runnable.specs.Laws.{TextsAreRunnable}

pub texts_run : SpelledNumbersFit → AcceptedLiteralsFit → SpelledObjectsHaveNames → NamedProgramsHaveOneHeap → TextsAreRunnable
texts_run numbers literals names heaps text tokens program reads spelled accepted = record {
  accepted = accepted;
  heap = heaps program (names text tokens program reads spelled);
  literals = literals program accepted (numbers text tokens program reads spelled);
}
