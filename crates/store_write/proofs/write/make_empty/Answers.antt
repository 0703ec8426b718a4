use Rattle.std.proofs.Common.{◌≡◌, replicate, rules}
use Rattle.store.proofs.WordLaws.{is-store}
use Rattle.store_write.proofs.WriteLaws.{store-empty, sized-empty, cleared-filled}
use Rattle.store_write.proofs.write.make_empty.Goals as goal

pub returns-then-fits-clause-words_after_2 : goal.returns-then-fits-clause-words_after_2
returns-then-fits-clause-words_after_2 c =
    let w = c.args.words.now in
    let h = c.if-fits.true in
    let e : c.fill.new.self ≡ replicate 6 0 = search rules in
    λ t. rw (cleared-filled w h c.fill.new.self e) (store-empty w h, is-store _ (sized-empty w h))
