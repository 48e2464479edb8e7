mod FirstFeed
mod FirstLines
mod Laws
mod OneLine
mod Running
mod Taking
