-- What a request of the program asks for.
use Rattle.asn_convert.specs.Requests as spec
use Rattle.asn_convert.specs.declared.request.Request.{Request}
use Rattle.asn_convert.specs.declared.request.Request.TheVariants.{Convert, Make, Module, Grows, Keep}

-- What a request asks for.
abbrev pub request_view : Request → spec.Request
request_view (Convert from to sample limit) = spec.Request.conversion from to sample limit
request_view (Make n) = spec.Request.document n
request_view Module = spec.Request.printing
request_view (Grows old new) = spec.Request.growth old.now new.now
request_view (Keep from old new) = spec.Request.keeping from old new
