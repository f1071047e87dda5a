use Rattle.std.proofs.Common.{ap}
use Rattle.gr_machine.specs.Machines.{machine_of}
use Rattle.gr_machine.specs.States.{Letter}
use Rattle.gr_posts.specs.Posts.{Posts}
use Rattle.gr_courses.specs.Seen.{Seen}
use Rattle.gr_state.specs.StateView.{seen_of}
use Rattle.gr_serves.proofs.Serving.{served_so}
use Rattle.gr_serves.proofs.letters.serve_first.Goals as goal

pub returns : goal.returns
returns g c =
    let seen : Seen = seen_of c.args.state.now in
    let letter : Letter = record { from = c.letter.inside.from; message = c.letter.inside.message } in
    let with_posts : Posts → Seen = λ posts. record seen {
      machine = machine_of posts.setup c.args.state.now.slots.code.program;
      me = posts.me;
      core = record seen.core { inbox = posts.inbox; buffers = posts.buffers };
    } in
    served_so c.settle.result seen (seen_of (record c.args.state.now { posts = c.next.new.self })) _ _ c.args.state.now.posts.inbox letter _
    (cc (c.in-Some.ensures.first, c.letter.view_is))
    (ap with_posts c.next.ensures.rest)
    c.in_ok-serve_message.ensures
    c.settling-vector.ensures
    c.settle.ensures
