-- What a `Posts` keeps, as the messages at a core.
use Rattle.std.specs.Prelude.{◌≡◌, ◌<◌, ℕ, List}
use Rattle.gr_agg.specs.Aggregates.{Lists, waiting_in}
use Rattle.gr_machine.specs.declared.setup.Setup.{Setup}
use Rattle.gr_machine.specs.States.{Letter}
use Rattle.gr_posts.specs.Posts.{IsSetup, Posts}

-- The setup, the number of the core, the letters in their order, and what the aggregator keeps.
pub record PostsData : Type 0 where
  pub setup : Setup
  pub me : ℕ
  pub inbox : List Letter
  pub buffers : Lists

-- The setup is one of a run, which has this core, and the aggregator is one for it.
pub record IsPosts (kept : PostsData) : Type 0 where
  pub setup : IsSetup kept.setup
  pub core : kept.me < kept.setup.cores
  pub limit : (waiting_in kept.buffers).limit ≡ kept.setup.limit
  pub cores : (waiting_in kept.buffers).cores ≡ kept.setup.cores

abbrev pub posts_in : PostsData → Posts
posts_in kept = record { setup = kept.setup; me = kept.me; inbox = kept.inbox; buffers = (waiting_in kept.buffers).messages }
