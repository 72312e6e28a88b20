use Rattle.std.proofs.Common.{◌++◌, ℕ, ap, ◌∙◌}
use Rattle.std.specs.Prelude.{option_to_list}
use Rattle.hls_segments.specs.Playlist.{head}
use Rattle.hls_segments.proofs.Lists.{whole_text}
use Rattle.hls_segments.proofs.playlist.put_list.Goals as goal

pub returns : goal.returns
returns c =
    whole_text c.args.name.now c.args.closed.now (option_to_list c.args.last) c.args.out.now c.put_head.new.out c.put_entries.new.out c.put_last.new.out c.append.new.self
    (c.in_ok-put_head.ensures ∙ ap (λ (n : ℕ). c.args.out.now ++ head n) c.longest.ensures) c.in_ok-put_entries.ensures c.in_ok-put_last.ensures c.in_ok-append.ensures.ok
