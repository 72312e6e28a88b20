use Rattle.std.proofs.Common.{◌≡◌, ◌∙◌, ◌++◌, List, ℕ, ap, rules}
use Rattle.hls_segments.specs.Cuts.{segments}
use Rattle.hls_segments.specs.Playlist.{playlist}
use Rattle.segment_command.proofs.Writing.{no_part_put}
use Rattle.segment_command.proofs.segments.write_list.Goals as goal

pub returns-in_err-playlist-clause-list : goal.returns-in_err-playlist-clause-list
returns-in_err-playlist-clause-list g c =
    let k = c.args.segmenter.now in
    let h = no_part_put (playlist c.args.name.now (segments k.least k.past)) (g.K.Sink.holds c.args.out.now) in
    search (rules, h)

pub returns-clause-list : goal.returns-clause-list
returns-clause-list g c =
    let k = c.args.segmenter.now in
    let text = playlist c.args.name.now (segments k.least k.past) in
    let is : c.as_slice.result.now ≡ text = c.as_slice.ensures ∙ c.in_ok-playlist.ensures.ok ∙ ap (λ (l : List ℕ). l ++ text) c.new-list.ensures in
    rw is at c.put_all.ensures.text
