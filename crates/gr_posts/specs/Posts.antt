-- The messages at a core, and where the words of the shared memory lie.
use Rattle.std.specs.Prelude.{ℕ, ◌≤◌, ◌==◌, List, [], ◌∷◌, ◌++◌, drop, if◌then◌else◌}
use Rattle.gr_syntax.specs.declared.limits.TheConstants.{MAX_CORES}
use Rattle.gr_view.specs.Places.{put}
use Rattle.gr_msg.specs.declared.message.Msg.{Msg}
use Rattle.gr_msg.specs.declared.opened.TheConstants.{MAX_CLOCK, MAX_MESSAGES}
use Rattle.gr_addr.specs.declared.layout.TheConstants.{MAX_BLOCK}
use Rattle.gr_agg.specs.Buffers.{add_last}
use Rattle.gr_machine.specs.declared.setup.Setup.{Setup}
use Rattle.gr_machine.specs.States.{Letter}
use Rattle.gr_machine.specs.Events.{letters_from}

-- The numbers of a run are in their ranges.
pub record IsSetup (setup : Setup) : Type 0 where
  pub core : 1 ≤ setup.cores
  pub cores : setup.cores ≤ MAX_CORES
  pub word : 1 ≤ setup.block
  pub block : setup.block ≤ MAX_BLOCK
  pub message : 1 ≤ setup.limit
  pub limit : setup.limit ≤ MAX_MESSAGES
  pub events : setup.events ≤ MAX_CLOCK

-- The setup of the run, the number of the core, its inbox, and the messages for each other core that haven't been shipped.
pub record Posts : Type 0 where
  pub setup : Setup
  pub me : ℕ
  pub inbox : List Letter
  pub buffers : ℕ → List Msg

-- No messages.
abbrev pub no_posts : Setup → ℕ → Posts
no_posts setup me = record { setup = setup; me = me; inbox = []; buffers = λ dest. [] }

-- A message that is sent: to the core itself, last into its inbox; to another core, into the buffer.
abbrev pub posted : Posts → ℕ → Msg → Posts
posted posts to message =
    if to == posts.me
    then record posts { inbox = posts.inbox ++ record { from = posts.me; message = message } ∷ [] }
    else record posts { buffers = put posts.buffers to (add_last (posts.buffers to) message) }

-- The first letter is in the inbox no more.
abbrev pub without_first : Posts → Posts
without_first posts = record posts { inbox = drop 1 posts.inbox }

-- The messages of a packet from a core go last into the inbox.
abbrev pub delivered : Posts → ℕ → List Msg → Posts
delivered posts from messages = record posts { inbox = posts.inbox ++ letters_from from messages }

-- The messages of the next packet to a core are shipped.
abbrev pub shipped_to : Posts → ℕ → Posts
shipped_to posts dest = record posts { buffers = put posts.buffers dest (drop posts.setup.limit (posts.buffers dest)) }
