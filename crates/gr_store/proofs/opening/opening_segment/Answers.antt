use Rattle.std.proofs.Common.{◌≡◌, ℕ, Option, Some, is_some, slice_index, arith, sym, ap, ◌∙◌}
use Rattle.gr_lang.specs.Openings.{opening}
use Rattle.gr_view.specs.Places.{put}
use Rattle.gr_addr.specs.Dealing.{linear_of, share_of}
use Rattle.gr_store.specs.StoreView.{filled}
use Rattle.gr_store.proofs.Openings.{filled_none, filled_more, filled_next, filled_dealt}
use Rattle.gr_store.proofs.opening.opening_segment.Goals as goal

pub places-init : goal.places-init
places-init c =
    let layout = c.args.layout.now in
    let words = (opening c.args.code.now.program).words in
    let address = linear_of layout.cores layout.block c.args.me in
    c.in_ok-segment.ensures
    ∙ filled_none words address (share_of layout.cores layout.block layout.words c.args.me)
    ∙ ap (λ (share : ℕ). filled words address share 0) (sym c.share-share.ensures)

pub apply-requires : goal.apply-requires
apply-requires c =
    let layout = c.args.layout.now in
    ap (λ (held : ℕ → Option ℕ). is_some (held c.places.place)) c.places.invariant
    ∙ filled_next (opening c.args.code.now.program).words (linear_of layout.cores layout.block c.args.me) c.share-share.result c.places.place c.places-test.true

pub places-preserved : goal.places-preserved
places-preserved c =
    let layout = c.args.layout.now in
    let words = (opening c.args.code.now.program).words in
    let address = linear_of layout.cores layout.block c.args.me in
    let word : c.opening-word.result ≡ slice_index words (address c.places.place) = c.opening-word.ensures ∙ ap (slice_index words) c.linear.ensures.value in
    c.apply.ensures.after
    ∙ ap (λ (held : ℕ → Option ℕ). put held c.places.place (Some c.opening-word.result)) c.places.invariant
    ∙ filled_more words address c.share-share.result c.places.place c.opening-word.result c.places-test.true word

pub returns : goal.returns
returns c =
    let layout = c.args.layout.now in
    let words = (opening c.args.code.now.program).words in
    let address = linear_of layout.cores layout.block c.args.me in
    let share : c.share-share.result ≡ share_of layout.cores layout.block layout.words c.args.me = c.share-share.ensures in
    let end : c.places.place ≡ c.share-share.result = omega arith in
    c.places.invariant
    ∙ (λ i. filled words address (share i) ((end ∙ share) i))
    ∙ filled_dealt words layout.cores layout.block layout.words c.args.me layout.is_layout c.requires.core c.requires.words
