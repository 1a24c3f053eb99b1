use Rattle.std.proofs.Common.{◌≡◌, [], ◌∷◌, ◌++◌, length, arith, rules}
use Rattle.variant_ini.specs.Section.{key_line}
use Rattle.variant_ini.proofs.IndexLaws.{FindsLast-push}
use Rattle.variant_ini.proofs.section.push_line.Goals as goal

pub returns-clause-finds : goal.returns-clause-finds
returns-clause-finds c =
    let line = key_line c.args.key.now c.args.value.now in
    let items : c.push.new.self.items ≡ c.args.lines.now.items ++ line ∷ [] = search rules in
    let key_is : c.in_ok-index_key.index_key.items ≡ c.args.key.now = search rules in
    let place_is : c.len-place.result ≡ length c.args.lines.now.items = omega (arith, c.len-place.ensures, c.reserve.ensures.len, c.args.lines.now.ok.0) in
    rw items (FindsLast-push c.args.lines.now.items line c.in_ok-index_key.index_key c.len-place.result c.args.last_places.now c.insert.new.self key_is place_is c.requires c.in_ok-insert.ensures.updates)
