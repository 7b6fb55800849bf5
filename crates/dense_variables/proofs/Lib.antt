mod Numbers
mod Bodies
