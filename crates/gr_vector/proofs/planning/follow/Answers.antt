use Rattle.std.proofs.Common.{arith}
use Rattle.gr_lang.specs.declared.action.Op.TheVariants as op
use Rattle.gr_lang.specs.declared.action.WaitingCall.{WaitingCall}
use Rattle.gr_vector.proofs.Fits.{fits_here, fits_rest, ends_more, puts_more, gets_more}
use Rattle.gr_vector.proofs.planning.follow.Goals as goal

pub after-next-requires : goal.after-next-requires
after-next-requires c =
    fits_here c.args.calls.now c.loop-call.call-index record { slot = 0; id = record { core = 0; number = 0 }; op = op.Read 0 0 } (omega arith) c.loop-call.ends c.loop-call.invariant.fits

pub loop-call-preserved : goal.loop-call-preserved
loop-call-preserved c =
    let calls = c.args.calls.now in
    let at = c.loop-call.call-index in
    let none : WaitingCall = record { slot = 0; id = record { core = 0; number = 0 }; op = op.Read 0 0 } in
    record {
      puts = puts_more calls at none (omega arith) c.loop-call.ends _ _ _ _ c.after-next.ensures c.in_ok-add_put.ensures c.loop-call.invariant.puts;
      gets = gets_more calls at none (omega arith) c.loop-call.ends _ _ _ _ c.after-next.ensures c.in_ok-add_get.ensures c.loop-call.invariant.gets;
      ends = ends_more calls at none (omega arith) c.loop-call.ends _ _ c.after-next.ensures c.loop-call.invariant.ends;
      fits = fits_rest calls at none (omega arith) c.loop-call.ends _ c.after-next.ensures c.loop-call.invariant.fits;
    }
