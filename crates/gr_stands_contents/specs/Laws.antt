-- The law of what the cores of a run hold together.
use Rattle.std.specs.Prelude.{◌≡◌, List}
use Rattle.gr_lang.specs.Objects.{Objects}
use Rattle.gr_memory.specs.declared.contents.Content.{Content}
use Rattle.gr_memory.specs.Contents.{contents_of}
use Rattle.gr_code.specs.Shapes.{shapes_of}
use Rattle.gr_core.specs.declared.cores.Core.{Core}
use Rattle.gr_report.specs.Gathered.{AreGathered}
use Rattle.gr_report.specs.Laws.{AreInOrder}
use Rattle.gr_stands.specs.Worlds.{Given, machine_in, World, bodies}
use Rattle.gr_stands.specs.Memory.{WordsStand}
use Rattle.gr_stands.specs.Stands.{IsSound}
use Rattle.gr_stands_contents.specs.Rests.{VectorsRest, HaveBodies}

-- Where the words of a world stand for the plain objects, and no turn of a vector is out, what its cores hold together is what the plain objects hold.
abbrev pub ContentsStand : Type 0
ContentsStand =
    (given : Given) (cores : List Core) (world : World) (objects : Objects) (contents : List Content)
    → IsSound given → AreInOrder (machine_in given) cores → HaveBodies cores world
    → WordsStand (machine_in given) (bodies world) objects → VectorsRest given (bodies world) objects
    → AreGathered cores 0 (shapes_of given.program) contents → contents ≡ contents_of objects
