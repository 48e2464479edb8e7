use Rattle.std.proofs.Common.{map, ap, ◌∙◌}
use Rattle.std.specs.Option.{option_map}
use Rattle.asn_modules_names.specs.lookup.Entries.{import_entries, keys_of, module_entries, numbered}
use Rattle.asn_modules_names.specs.lookup.Homes.{home_view}
use Rattle.asn_modules_names.specs.lookup.Indexes.{same_name, same_pair}
use Rattle.asn_modules_names.specs.lookup.Lookup.{last_of}
use Rattle.asn_modules_names.specs.Mentions.{source_view}
use Rattle.asn_modules_names.proofs.lookup.Indexing.{assigned_holds, first_holds, imports_hold, last_holds, modules_hold}
use Rattle.asn_modules_names.proofs.lookup.index.index_of.Goals as goal

pub returns : goal.returns
returns c =
    let ss = map source_view c.args.sources.now in
    let hs = c.in_ok-homes.homes.items in
    let all = c.in_ok-homes.ensures in
    let made = c.in_ok-keys.ensures ∙ ap (λ x. keys_of c.args.sort 0 (map home_view x)) c.as_slice-3.ensures.value in
    let counted = c.in_ok-counted.ensures ∙ ap (numbered 0) c.as_slice-4.ensures.value in
    let names = c.in_ok-named.ensures ∙ ap (map (λ e. (e.0.1, e.1))) c.as_slice-5.ensures.value in
    record {
      modules = λ q. c.in_ok-modules.ensures q ∙ ap (λ es. last_of same_name es q) c.as_slice-6.ensures.value ∙ modules_hold ss hs all c.in_ok-headed.headed.items (c.in_ok-headed.ensures ∙ ap (λ x. module_entries 0 (map home_view x)) c.as_slice.ensures.value) q;
      assigned = λ q. c.in_ok-assigned.ensures q ∙ ap (λ es. last_of same_pair es q) c.as_slice-7.ensures.value ∙ assigned_holds ss hs all c.args.sort c.in_ok-keys.keys.items c.in_ok-counted.counted.items made counted q;
      last = λ q. c.in_ok-last.ensures q ∙ ap (λ es. last_of same_name es q) c.as_slice-8.ensures.value ∙ last_holds ss hs all c.args.sort c.in_ok-keys.keys.items c.in_ok-counted.counted.items made counted c.in_ok-named.named.items names q;
      first = λ q. c.in_ok-first.ensures q ∙ ap (λ es. last_of same_name es q) c.as_slice-9.ensures.value ∙ first_holds ss hs all c.args.sort c.in_ok-keys.keys.items c.in_ok-counted.counted.items made counted c.in_ok-named.named.items c.reverse.new.self.items names c.reverse.ensures.items q;
      imports = λ q. ap (λ o. option_map (λ n. n.now) o) (c.in_ok-imports.ensures q ∙ ap (λ es. last_of same_pair es q) c.as_slice-10.ensures.value) ∙ imports_hold ss hs all c.in_ok-imported.imported.items (c.in_ok-imported.ensures ∙ ap (λ x. import_entries 0 (map home_view x)) c.as_slice-2.ensures.value) q;
    }
