-- The laws of the words of states that are reached.
use Rattle.gr_lang.specs.declared.action.Op.{Op}
use Rattle.gr_lang.specs.Objects.{Objects, call}
use Rattle.gr_lang.specs.States.{State}
use Rattle.gr_stands.specs.Worlds.{Given}
use Rattle.gr_fits.specs.Reached.{IsReached}
use Rattle.gr_bounds_stands.specs.Telling.{PlainLoopsFit}
use Rattle.gr_fits_words.specs.Literals.{LiteralsFit}
use Rattle.gr_fits_words.specs.Words.{CallHasWords, ObjectsHaveWords, ReplyHasWords, WordsFit}

-- A call with words leaves objects with words, and replies words.
abbrev pub CallsKeepWords : Type 0
CallsKeepWords = (op : Op) (objects : Objects) → CallHasWords op → ObjectsHaveWords objects → ObjectsHaveWords (call op objects).0 × ReplyHasWords (call op objects).1

-- In each state that a legal history reaches all words are words, where the numbers of the program are.
abbrev pub ReachedWordsFit : Type 0
ReachedWordsFit = (given : Given) → LiteralsFit given.program → (state : State) → IsReached given state → WordsFit state

-- So each loop to which a task comes next has at most as many indices as there are words.
abbrev pub ReachedLoopsHaveFewIndices : Type 0
ReachedLoopsHaveFewIndices = (given : Given) → LiteralsFit given.program → (state : State) → IsReached given state → PlainLoopsFit state
